-- The pieces under the sweep at p, put in order, are the active list after a step at p, of whichever mode.
use mathlib.Core.Path.{◌≡◌, subst}
use mathlib.Core.Logic.{◌≢◌}
use mathlib.Core.Bool.{true}
use mathlib.Core.Option.{some}
use mathlib.Core.List.{List}
use mathlib.Core.List.{Memᴰ as In}
use Prim.Native.Nat.{ℕ}
use native.Mathlib.Omega.{arith}
use Rattle.sweep.specs.Lists.{sort, Pairwise}
use Rattle.sweep.specs.Chart.{Chart}
use Rattle.sweep.specs.Geometry.{Occurs}
use Rattle.sweep.proofs.Tests.{clash}
use Rattle.sweep.proofs.Lists.{pairwise_map}
use Rattle.sweep.proofs.Sorting.{sort_in, sort_out, sort_sorted}
use Rattle.sweep.proofs.Ranked.{Act, Ranked}
use Rattle.sweep.proofs.Between.{bound, Lined}

module _ (C : Chart) (F : Ranked C) (p : C.Point) (op : Occurs C p) (l : List ℕ) where
  open C use {Point, before}
  open F.keyed use {key}

  module _ (out : (i : ℕ) → In i l → Act C key p i) (into : (i : ℕ) → Act C key p i → In i l) (once : Pairwise (λ i j. i ≢ j) l) where
    pub sorted_line : Pairwise (λ i j. before p i j ≡ true) (sort (before p) l)
    sorted_line = sort_sorted (before p) (Act C key p) (F.before_trans p op) (F.before_total p op) l out once

    pub sorted_act : (i : ℕ) → In i (sort (before p) l) → Act C key p i
    sorted_act i m = out i (sort_out (before p) l m)

    pub sorted_once : Pairwise (λ i j. i ≢ j) (sort (before p) l)
    sorted_once =
        pairwise_map (λ i j. before p i j ≡ true) (λ i j. i ≢ j) (sort (before p) l) (λ x y a b e d. clash {b = before p y y} (rw d at e) (F.before_irr p y)) sorted_line

    pub sorted_lined : Lined C F (sort (before p) l) (some p)
    unfolding bound
    sorted_lined =
        record {
          last_occurs = λ q e. let d : p ≡ q = cc in subst (Occurs C) d op;
          active_out = λ i m. let a = sorted_act i m in (a.0, omega arith, a.2);
          active_in = λ i h a b. sort_in (before p) (into i (h, omega arith, b));
          line = λ q e. let d : p ≡ q = cc in subst (λ (x : Point). Pairwise (λ i j. before x i j ≡ true) (sort (before p) l)) d sorted_line;
          once = sorted_once;
        }
