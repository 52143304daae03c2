-- What a report of one pair comes to, by its mark and by how its pieces meet, and a pass over rows of pairs.
use mathlib.Core.Path.{◌≡◌, refl, sym}
use mathlib.Core.Bool.{Bool, true, false, cond, not, ◌&&◌}
use mathlib.Core.List.{List, [], ◌∷◌, ◌++◌, map}
use Prim.Native.Nat.{ℕ, ◌+◌, ◌≤◌, ◌<◌}
use native.Mathlib.Numerals.{add-one}
use native.Mathlib.Omega.{arith}
use lib.Dec.{eqb}
use lib.ListN.{length, get_or, drop, drop_of_length-le}
use lib.Seq.{drop-cons}
use borrow.Author.Tests.{eq-eqb, ne_eqb}
use Rattle.sweep.specs.Lists.{Pair, pairs}
use Rattle.sweep.specs.Chart.{nothing, Chart, meets, kind}
use Rattle.sweep.specs.Step.{each}
use Rattle.ported_arrays.specs.Ledger.{Ledger, mark, list, report}

pub each_append : {S : Type 0} (f : Pair → S → S) (l m : List Pair) (s : S) → each f (l ++ m) s ≡ each f m (each f l s)
unfolding each
each_append f [] m s = refl
each_append f (q ∷ l) m s = each_append f l m (f q s)

module _ (C : Chart) (q : Pair) (s : Ledger) where
  pub report_listed : mark s q ≡ 2 → s ≡ report C q s
  unfolding report
  report_listed e = rw (eq-eqb (mark s q) 2 e) refl

  pub report_apart : kind C q ≡ nothing → s ≡ report C q s
  unfolding report meets
  report_apart e = rw e (sym (and_no (not (eqb (mark s q) 2))))
    where
      and_no : (b : Bool) → cond (b && false) (list q s) s ≡ s
      and_no true = refl
      and_no false = refl

  pub report_lists : (mark s q ≡ 2 → ⊥) → meets (kind C q) ≡ true → list q s ≡ report C q s
  unfolding report
  report_lists d e = rw (ne_eqb (mark s q) 2 d, e) refl

-- a row of pairs, and the rows, one more at a time
pub row_step : {S : Type 0} (f : Pair → S → S) (i : ℕ) (l : List ℕ) (y : ℕ) (s : S) → y < length l
    → each f (map (λ j. (i, j)) (drop y l)) s ≡ each f (map (λ j. (i, j)) (drop (y + 1) l)) (f (i, get_or l y 0) s)
unfolding each
row_step f i l y s h = rw (drop-cons l y 0 h, add-one y) refl

pub rows_step : {S : Type 0} (f : Pair → S → S) (i : ℕ) (l rest : List ℕ) (s : S) → rest ≡ i ∷ l
    → each f (pairs rest) s ≡ each f (pairs l) (each f (map (λ j. (i, j)) l) s)
unfolding pairs
rows_step f i l rest s e = rw e (each_append f (map (λ j. (i, j)) l) (pairs l) s)

pub row_end : {S : Type 0} (f : Pair → S → S) (i : ℕ) (l : List ℕ) (y : ℕ) (s : S) → length l ≤ y → each f (map (λ j. (i, j)) (drop y l)) s ≡ s
unfolding each
row_end f i l y s h = rw (drop_of_length-le l h) refl

pub rows_end : {S : Type 0} (f : Pair → S → S) (l : List ℕ) (s : S) → length l ≡ 0 → each f (pairs l) s ≡ s
unfolding each pairs
rows_end f [] s h = refl
rows_end f (x ∷ l) s h = absurd (omega arith)
