-- What a step leaves waiting: crossings beyond p, of pieces that have begun by p.
use mathlib.Core.Path.{◌≡◌, refl, ap, ◌∙◌, subst}
use mathlib.Core.Logic.{⊎_elim}
use mathlib.Core.Bool.{true, false, not, ◌&&◌, ◌||◌}
use mathlib.Core.Option.{Option, none, some}
use mathlib.Core.List.{List, [], ◌∷◌}
use mathlib.Core.List.Memᴰ.{head as here}
use mathlib.Core.List.Memᴰ.{tail as there}
use mathlib.Core.List.{Memᴰ as In}
use Prim.Native.Nat.{ℕ}
use Rattle.sweep.specs.Lists.{Pair, among}
use Rattle.sweep.specs.Chart.{Kind, nothing, crosses, overlaps, Chart, meets, kind, at}
use Rattle.sweep.specs.State.{Marks}
use Rattle.sweep.specs.Queue.{beyond}
use Rattle.sweep.specs.Step.{list, wait, each, report, drop, examine_free, examine}
use Rattle.sweep.proofs.Tests.{ask, clash}
use Rattle.sweep.proofs.Sorting.{place_out}
use Rattle.ported_arrays.specs.Agreement.{Ordered}

module _ (C : Chart) (p : C.Point) where
  open C use {Point, less, min}

  abbrev pub Begun : ℕ → Type 0
  Begun i = less p (min i) ≡ false

  -- what is to hold of every pair that waits
  pub record Ahead (q : Pair) : Type 0 where
    pub beyond_p : less p (at C q) ≡ true
    pub first_begun : Begun q.0
    pub second_begun : Begun q.1

  abbrev pub AllAhead : Marks → Type 0
  AllAhead m = (q : Pair) → In q m.waiting → Ahead q

  report_waiting : (q : Pair) (m : Marks) → (report C q m).waiting ≡ m.waiting
  unfolding report list
  report_waiting q m =
      ⊎_elim
      (λ (e : (not (among q m.listed) && meets (kind C q)) ≡ true). rw e)
      (λ (e : (not (among q m.listed) && meets (kind C q)) ≡ false). rw e)
      (ask (not (among q m.listed) && meets (kind C q)))

  pub reports_ahead : (l : List Pair) (m : Marks) → AllAhead m → AllAhead (each (report C) l m)
  unfolding each
  reports_ahead [] m h = h
  reports_ahead (q ∷ l) m h = reports_ahead l (report C q m) (λ r k. h r (subst (λ (z : List Pair). In r z) (report_waiting q m) k))

  free_ahead : (k : Kind) (q : Pair) (m : Marks) → AllAhead m → Begun q.0 → Begun q.1 → AllAhead (examine_free C p k q m)
  unfolding examine_free list wait
  free_ahead nothing q m h a b = h
  free_ahead overlaps q m h a b = h
  free_ahead crosses q m h a b =
      ⊎_elim (λ (e : less p (at C q) ≡ true). rw e (λ r k. one e r (place_out _ q m.waiting k))) (λ (e : less p (at C q) ≡ false). rw e h)
      (ask (less p (at C q)))
    where
      one : less p (at C q) ≡ true → (r : Pair) → In r (q ∷ m.waiting) → Ahead r
      one e r (here f) = rw f (record { beyond_p = e; first_begun = a; second_begun = b })
      one e r (there k) = h r k

  examine_ahead : (q : Pair) (m : Marks) → AllAhead m → Begun q.0 → Begun q.1 → AllAhead (examine C p q m)
  unfolding examine
  examine_ahead q m h a b =
      ⊎_elim
      (λ (e : (among q m.listed || among q m.waiting) ≡ true). rw e h)
      (λ (e : (among q m.listed || among q m.waiting) ≡ false). rw e (free_ahead (kind C q) q m h a b))
      (ask (among q m.listed || among q m.waiting))

  pub examines_ahead : (l : List Pair) (m : Marks) → AllAhead m → ((q : Pair) → In q l → Begun q.0 × Begun q.1) → AllAhead (each (examine C p) l m)
  unfolding each
  examines_ahead [] m h k = h
  examines_ahead (q ∷ l) m h k =
      let b = k q (here refl) in
      examines_ahead l (examine C p q m) (examine_ahead q m h b.0 b.1) (λ r i. k r (there i))

  one_drop : (q : Pair) (m : Marks) → report C q (drop C p m) ≡ drop C p (report C q m)
  unfolding report drop list
  one_drop q m =
      ⊎_elim
      (λ (e : (not (among q m.listed) && meets (kind C q)) ≡ true). rw e)
      (λ (e : (not (among q m.listed) && meets (kind C q)) ≡ false). rw e)
      (ask (not (among q m.listed) && meets (kind C q)))

  -- dropping p's crossings, before the reports or after them
  pub report_drop : (l : List Pair) (m : Marks) → each (report C) l (drop C p m) ≡ drop C p (each (report C) l m)
  unfolding each
  report_drop [] m = refl
  report_drop (q ∷ l) m = ap (each (report C) l) (one_drop q m) ∙ report_drop l (report C q m)

module _ (C : Chart) (O : Ordered C) (last : Option C.Point) (fits : (l : C.Point) → last ≡ some l → O.Fit l) (p : C.Point) (fit : O.Fit p)
    (after : beyond C last p ≡ true) where
  open C use {Point, less, min, n}

  -- what is not beyond the last point is not beyond p; what is beyond p is beyond the last point
  pub begun_on : (x : Point) → O.Fit x → beyond C last x ≡ false → less p x ≡ false
  unfolding beyond
  begun_on x f e = go last fits after e
    where
      go : (o : Option Point) → ((l : Point) → o ≡ some l → O.Fit l) → beyond C o p ≡ true → beyond C o x ≡ false → less p x ≡ false
      go none h a b = clash refl b
      go (some l) h a b =
          ⊎_elim (λ (d : less p x ≡ true). clash (O.less_trans l p x (h l refl) fit f a d) b) (λ (d : less p x ≡ false). d) (ask (less p x))

  pub beyond_on : (x : Point) → O.Fit x → less p x ≡ true → beyond C last x ≡ true
  unfolding beyond
  beyond_on x f e = go last fits after
    where
      go : (o : Option Point) → ((l : Point) → o ≡ some l → O.Fit l) → beyond C o p ≡ true → beyond C o x ≡ true
      go none h a = refl
      go (some l) h a = O.less_trans l p x (h l refl) fit f a e
