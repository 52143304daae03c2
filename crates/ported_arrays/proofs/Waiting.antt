-- A free pair that crosses begins to wait, in the ledger as in the state.
use mathlib.Core.Path.{◌≡◌, refl, sym, ap, ap₂, ◌∙◌}
use mathlib.Core.Logic.{◌≢◌, ⊎_elim}
use mathlib.Core.Bool.{Bool, true, false, cond}
use mathlib.Core.List.{List, [], ◌∷◌, map}
use mathlib.Core.List.Memᴰ.{head as here}
use mathlib.Core.List.Memᴰ.{tail as there}
use mathlib.Core.List.{Memᴰ as In}
use Prim.Native.Nat.{ℕ, suc, ◌-◌, ◌<◌}
use native.Mathlib.Omega.{arith}
use lib.Dec.{eqb}
use lib.ListN.{length, set, get_or, length-set}
use borrow.Author.Tests.{eqb-true}
use Rattle.charts.specs.Chart.{most}
use Rattle.sweep.specs.Lists.{Pair, among, place}
use Rattle.sweep.specs.Chart.{Chart, crosses, kind, at}
use Rattle.sweep.specs.State.{Marks}
use Rattle.sweep.specs.Step.{wait}
use Rattle.sweep.specs.Demand.{Pieces}
use Rattle.sweep.proofs.Tests.{ask, same_test}
use Rattle.sweep.proofs.Sorting.{place_in, place_out}
use Rattle.sweep.proofs.Pairs.{among_in, among_out, among_no}
use Rattle.ported_arrays.specs.Numbers.{cell, crossing_before}
use Rattle.ported_arrays.specs.Ledger.{Ledger, mark}
use Rattle.ported_arrays.specs.Ledger.{wait as queue}
use Rattle.ported_arrays.specs.Agreement.{mark_of, Ordered, Once, Room, Holds}
use Rattle.ported_arrays.proofs.Cells.{pair_cell}
use Rattle.ported_arrays.proofs.Marking.{same_or_not, set_own, set_others}
use Rattle.ported_arrays.proofs.Order.{nearer, place_up, place_pairwise}
use Rattle.ported_arrays.proofs.Listing.{once_room}

pub place_length : {A : Type 0} (before : A → A → Bool) (x : A) (l : List A) → length (place before x l) ≡ suc (length l)
unfolding place
place_length before x [] = refl
place_length before x (y ∷ l) =
    ⊎_elim
    (λ (e : before x y ≡ true). rw (e, place))
    (λ (e : before x y ≡ false). rw (e, place) (ap suc (place_length before x l)))
    (ask (before x y))

module _ (C : Chart) where
  -- the order of crossings by the numbers of their pairs
  cells_nearer : (q r : Pair) → q.1 < most → r.1 < most → crossing_before C (cell q) (cell r) ≡ nearer C (at C) q r
  unfolding crossing_before
  cells_nearer q r h k = ap₂ (λ (a : Pair) (b : Pair). nearer C (at C) a b) (pair_cell q h) (pair_cell r k)

  cells_place : (q : Pair) (l : List Pair) → q.1 < most → ((r : Pair) → In r l → r.1 < most)
      → map cell (place (nearer C (at C)) q l) ≡ place (crossing_before C) (cell q) (map cell l)
  unfolding place
  cells_place q [] h k = refl
  cells_place q (r ∷ l) h k =
      ⊎_elim
      (λ (e : nearer C (at C) q r ≡ true). rw (cells_nearer q r h (k r (here refl)), e, place))
      (λ (e : nearer C (at C) q r ≡ false).
      rw (cells_nearer q r h (k r (here refl)), e, place) (ap (λ (z : List ℕ). cell r ∷ z) (cells_place q l h (λ t m. k t (there m)))))
      (ask (nearer C (at C) q r))

  module _ (O : Ordered C) (places : ℕ) (lent : List ℕ) (R : Room C places lent) (s : Ledger) (m : Marks) (H : Holds C places lent s m)
      (q : Pair) (v : Pieces C q) (k : kind C q ≡ crosses) (new : ¬ In q m.waiting) (free : ¬ In q m.listed) where
    put_in : List Pair
    put_in = place (nearer C (at C)) q m.waiting

    short : (r : Pair) → In r m.waiting → r.1 < most
    short r h = omega (arith, H.waiting_once.pieces r h, R.few)

    once : Once C put_in
    unfolding put_in
    once =
        record {
          pieces = λ r h. own r (place_out (nearer C (at C)) q m.waiting h);
          once = place_pairwise (nearer C (at C)) _ q m.waiting (λ r h. (λ e. new (rw e h), λ e. new (rw (sym e) h))) H.waiting_once.once;
        }
      where
        own : (r : Pair) → In r (q ∷ m.waiting) → Pieces C r
        own r (here e) = rw e v
        own r (there h) = H.waiting_once.pieces r h

    crossing : (r : Pair) → In r (q ∷ m.waiting) → kind C r ≡ crosses
    crossing r (here e) = rw e k
    crossing r (there h) = H.waiting_cross r h

    -- there is a place to spare: all pairs have one
    spare : (x : ℕ) × (s.spare ≡ suc x)
    unfolding put_in
    spare = (
      s.spare - 1,
      omega (arith, once_room C put_in once, place_length (nearer C (at C)) q m.waiting, H.spare_is, R.waits),
    )

    not_empty : eqb s.spare 0 ≡ false
    not_empty = ⊎_elim (λ (e : eqb s.spare 0 ≡ true). absurd (omega (arith, spare.1, eqb-true s.spare 0 e))) (λ (e : eqb s.spare 0 ≡ false). e) (ask (eqb s.spare 0))

    among_put : (r : Pair) → r ≢ q → among r put_in ≡ among r m.waiting
    unfolding put_in
    among_put r d =
        same_test (among r put_in) (among r m.waiting)
        (λ e. among_in (old (place_out (nearer C (at C)) q m.waiting (among_out r put_in e))))
        (λ e. among_in (place_in (nearer C (at C)) q m.waiting (there (among_out r m.waiting e))))
      where
        old : In r (q ∷ m.waiting) → In r m.waiting
        old (here e) = absurd (d e)
        old (there h) = h

    mark_own : mark_of (wait C q m) q ≡ 1
    unfolding mark_of wait put_in
    mark_own = rw (among_no q m.listed free, among_in (place_in (nearer C (at C)) q m.waiting (here refl)))

    mark_other : (r : Pair) → r ≢ q → mark_of (wait C q m) r ≡ mark_of m r
    unfolding mark_of wait put_in
    mark_other r d = ap (λ (b : Bool). cond (among r m.listed) 2 (cond b 1 0)) (among_put r d)

    marks_are : (r : Pair) → Pieces C r → get_or (set s.marks (cell q) 1) (cell r) 0 ≡ mark_of (wait C q m) r
    unfolding mark
    marks_are r w =
        ⊎_elim
        (λ (e : r ≡ q). rw e (set_own C R.few s.marks H.marks_long q v 1 ∙ sym mark_own))
        (λ (d : r ≢ q). set_others C R.few s.marks H.marks_long q v 1 r w d ∙ H.marks_are r w ∙ sym (mark_other r d))
        (same_or_not r q)

    pub wait_holds : Holds C places lent (queue C q s) (wait C q m)
    unfolding queue wait mark put_in
    wait_holds =
        record {
          waiting_is = rw (not_empty, H.waiting_is) (sym (cells_place q m.waiting (omega (arith, v.1, R.few)) short));
          spare_is = omega (arith, spare.1, H.spare_is, place_length (nearer C (at C)) q m.waiting);
          bytes_are = H.bytes_are;
          end_is = H.end_is;
          marks_long = length-set s.marks (cell q) 1 ∙ H.marks_long;
          marks_are = marks_are;
          waiting_once = once;
          waiting_cross = λ r h. crossing r (place_out (nearer C (at C)) q m.waiting h);
          waiting_up =
              place_up C O (at C) q m.waiting (O.fit_at q v k) (λ r h. O.fit_at r (H.waiting_once.pieces r h) (H.waiting_cross r h)) H.waiting_up;
          listed_once = H.listed_once;
        }
