-- Reporting and examining pairs, one by one, keeps the ledger in step with the state.
use mathlib.Core.Path.{◌≡◌, refl}
use mathlib.Core.Logic.{⊎_elim}
use mathlib.Core.Bool.{Bool, true, false, cond, not, ◌&&◌, ◌||◌}
use mathlib.Core.List.{List, [], ◌∷◌}
use mathlib.Core.List.Memᴰ.{head as here}
use mathlib.Core.List.Memᴰ.{tail as there}
use mathlib.Core.List.{Memᴰ as In}
use Prim.Native.Nat.{ℕ}
use lib.Dec.{eqb}
use Rattle.sweep.specs.Lists.{Pair, among}
use Rattle.sweep.specs.Chart.{Kind, nothing, crosses, overlaps, Chart, meets, kind, at}
use Rattle.sweep.specs.State.{Marks}
use Rattle.sweep.specs.Step.{each, report, examine_free, examine}
use Rattle.sweep.specs.Demand.{Pieces}
use Rattle.sweep.proofs.Tests.{ask, clash, and_both, not_true, neither}
use Rattle.sweep.proofs.Pairs.{among_in}
use Rattle.ported_arrays.specs.Ledger.{Ledger, mark}
use Rattle.ported_arrays.specs.Ledger.{report as reports, examine_free as examines_free, examine as examines}
use Rattle.ported_arrays.specs.Agreement.{mark_of, Ordered, Room, Holds}
use Rattle.ported_arrays.proofs.Listing.{list_holds}
use Rattle.ported_arrays.proofs.Waiting.{wait_holds}

-- what the number of a mark says
two_listed : (m : Marks) (q : Pair) → eqb (mark_of m q) 2 ≡ among q m.listed
unfolding mark_of
two_listed m q = go (among q m.listed) (among q m.waiting)
  where
    go : (a b : Bool) → eqb (cond a 2 (cond b 1 0)) 2 ≡ a
    go true b = refl
    go false true = refl
    go false false = refl

zero_free : (m : Marks) (q : Pair) → eqb (mark_of m q) 0 ≡ not (among q m.listed || among q m.waiting)
unfolding mark_of
zero_free m q = go (among q m.listed) (among q m.waiting)
  where
    go : (a b : Bool) → eqb (cond a 2 (cond b 1 0)) 0 ≡ not (a || b)
    go true b = refl
    go false true = refl
    go false false = refl

absent : (q : Pair) (l : List Pair) → among q l ≡ false → ¬ In q l
absent q l e h = clash (among_in h) e

module _ (C : Chart) (O : Ordered C) (places : ℕ) (lent : List ℕ) (R : Room C places lent) where
  abbrev Keeps : (Pair → Ledger → Ledger) → (Pair → Marks → Marks) → Pair → Type 0
  Keeps f g q = (s : Ledger) (m : Marks) → Holds C places lent s m → Holds C places lent (f q s) (g q m)

  pub each_holds : (f : Pair → Ledger → Ledger) (g : Pair → Marks → Marks) (l : List Pair) → ((q : Pair) → In q l → Keeps f g q)
      → (s : Ledger) (m : Marks) → Holds C places lent s m → Holds C places lent (each f l s) (each g l m)
  unfolding each
  each_holds f g [] k s m H = H
  each_holds f g (q ∷ l) k s m H = each_holds f g l (λ r i. k r (there i)) (f q s) (g q m) (k q (here refl) s m H)

  pub report_holds : (q : Pair) → Pieces C q → Keeps (reports C) (report C) q
  unfolding reports report mark
  report_holds q v s m H =
      ⊎_elim
      (λ (e : (not (among q m.listed) && meets (kind C q)) ≡ true).
      rw (H.marks_are q v, two_listed m q, e)
      (list_holds C places lent R s m H q v (absent q m.listed (not_true (among q m.listed) (and_both (not (among q m.listed)) (meets (kind C q)) e).0))))
      (λ (e : (not (among q m.listed) && meets (kind C q)) ≡ false). rw (H.marks_are q v, two_listed m q, e) H)
      (ask (not (among q m.listed) && meets (kind C q)))

  module _ (p : C.Point) (q : Pair) (v : Pieces C q) (s : Ledger) (m : Marks) (H : Holds C places lent s m)
      (free : ¬ In q m.listed) (new : ¬ In q m.waiting) where
    free_holds : (k : Kind) → kind C q ≡ k → Holds C places lent (examines_free C p k q s) (examine_free C p k q m)
    unfolding examines_free examine_free
    free_holds nothing e = H
    free_holds overlaps e = list_holds C places lent R s m H q v free
    free_holds crosses e =
        ⊎_elim
        (λ (b : C.less p (at C q) ≡ true). rw b (wait_holds C O places lent R s m H q v e new free))
        (λ (b : C.less p (at C q) ≡ false). rw b (list_holds C places lent R s m H q v free))
        (ask (C.less p (at C q)))

  pub examine_holds : (p : C.Point) (q : Pair) → Pieces C q → Keeps (examines C p) (examine C p) q
  unfolding examines examine mark
  examine_holds p q v s m H =
      ⊎_elim
      (λ (e : (among q m.listed || among q m.waiting) ≡ true). rw (H.marks_are q v, zero_free m q, e) H)
      (λ (e : (among q m.listed || among q m.waiting) ≡ false).
      rw (H.marks_are q v, zero_free m q, e)
      (free_holds p q v s m H (absent q m.listed (neither (among q m.listed) (among q m.waiting) e).0) (absent q m.waiting (neither (among q m.listed) (among q m.waiting) e).1) (kind C q) refl))
      (ask (among q m.listed || among q m.waiting))
