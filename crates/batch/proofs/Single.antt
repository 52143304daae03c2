-- The single call keeps the length of the bytes lent to it, since what it lists has room there, and the last point that it
-- tells fits 64 bits.
-- Assumes nothing.
use mathlib.Core.Path.{◌≡◌, refl, sym, ◌∙◌}
use mathlib.Core.List.{List, [], ◌∷◌}
use mathlib.Core.List.Memᴰ.{head as here}
use mathlib.Core.List.Memᴰ.{tail as there}
use mathlib.Core.List.{Memᴰ as In}
use mathlib.Core.Option.{Option, none, some}
use Prim.Native.Nat.{ℕ, zero, suc, ◌*◌, ◌^◌, ◌≤◌, ◌<◌}
use native.Mathlib.Omega.{arith}
use lib.IntN.{ℤ, pos, negsuc, nat_abs}
use lib.ListN.{length, take, drop, length-append, length-drop}
use lib.Signed.{mag}
use Rattle.fractions.specs.Point.{Bounded}
use Rattle.fractions.specs.declared.Point.{Point}
use Rattle.charts.specs.Chart.{verdict_of}
use Rattle.charts.specs.Answer.{room, listing_of}
use Rattle.charts.specs.Piece.{piece_at}
use Rattle.charts.specs.Verdict.{Verdict}
use Rattle.charts.specs.Verdict.{Accepted, Refused}
use Rattle.charts.proofs.Listing.{listing_goes}
use Rattle.naive.specs.Pairs.{bytes, over}
use Rattle.naive.proofs.Rows.{bytes_length}
use Rattle.sweep.specs.Lists.{Pair, last_of}
use Rattle.ported_arrays.proofs.Room.{once_twice}
use Rattle.full_order.specs.Finer.{finer}
use Rattle.full_steps.specs.Steps.{answer}
use Rattle.full_order.proofs.Modes.{list_full_sweeps}
use Rattle.sweep_geometry.proofs.Supply.{reduced}
use Rattle.sweep_geometry.proofs.Accepted.{list_proper}
use Rattle.ported_run.specs.Last.{as_last}
use Rattle.full_sweep.specs.Swept.{swept_by, swept_for, sweep_of, listed_over, lent_for, lent_after}
use Rattle.batch.specs.Single.{largest, swept_alone, left_alone}
use Rattle.batch.proofs.Reading.{FitsLast}

-- the last of a list is in it
last_in : {A : Type 0} (l : List A) (p : A) → last_of l ≡ some p → In p l
unfolding last_of
last_in [] p h = let z : ◌≡◌ {A = ℕ} 0 1 = cc in absurd (omega arith)
last_in (x ∷ []) p h = let e : p ≡ x = cc in here e
last_in (x ∷ y ∷ l) p h = there (last_in (y ∷ l) p h)

fits_as_last : (o : Option Point) → ((p : Point) → o ≡ some p → Bounded p) → FitsLast (as_last o)
fits_as_last none h = tt
fits_as_last (some p) h = let b = h p refl in (small p.x b.x_small, small p.y b.y_small)
  where
    small : (z : ℤ) → nat_abs z < 2 ^ 48 → mag z < 9223372036854775808
    small (pos n) h = omega arith
    small (negsuc n) h = omega arith

-- what is taken of a list is in it
taken_in : {A : Type 0} (m : ℕ) (l : List A) (p : A) → In p (take m l) → In p l
taken_in zero l p h = elim h [ ]
taken_in (suc m) [] p h = elim h [ ]
taken_in (suc m) (x ∷ l) p (here e) = here e
taken_in (suc m) (x ∷ l) p (there h) = there (taken_in m l p h)

-- ---- the run's
listed_fit : (list : List ℤ) (n budget : ℕ) → verdict_of list ≡ Accepted n → 2 * length (answer (finer n (piece_at list)) budget).listed ≤ room n
listed_fit list n budget e =
    let P = list_full_sweeps list n e in
    omega (arith, once_twice (finer n (piece_at list)) (answer (finer n (piece_at list)) budget).listed (P.lists_once budget) (λ q m. ((P.lists_exactly budget q).0 m).0))

-- the last point is an end or a crossing
last_bounded : (list : List ℤ) (n budget : ℕ) → verdict_of list ≡ Accepted n → (p : Point) → (answer (finer n (piece_at list)) budget).last ≡ some p → Bounded p
last_bounded list n budget e p h =
    let P = list_full_sweeps list n e in
    let seen = rw (P.visits_in_order.first_of budget) at (last_in _ p (sym (P.last_visited budget) ∙ h)) in
    (reduced n (piece_at list) (list_proper list n e) _ p ((P.visits_in_order.all_of p).0 (taken_in budget _ p seen))).1

-- ---- over lent bytes
over_length : (l : List Pair) (lent : List ℕ) → 2 * length l ≤ length lent → length (over (bytes l) lent) ≡ length lent
unfolding over
over_length l lent h = length-append (bytes l) (drop (length (bytes l)) lent) ∙ omega (arith, length-drop (length (bytes l)) lent, bytes_length l)

kept : (list : List ℤ) (budget : ℕ) (lent : List ℕ) (v : Verdict) → listing_of list (length lent) ≡ v → length (lent_for list budget lent v) ≡ length lent
unfolding listed_over
kept list budget lent (Accepted n) e =
    let g = listing_goes list (length lent) n e in
    over_length _ lent (omega (arith, listed_fit list n budget g.0, g.1))
kept list budget lent (Refused k p) e = refl

pub keeps_length : (list : List ℤ) (lent : List ℕ) → length (left_alone list lent) ≡ length lent
unfolding left_alone lent_after
keeps_length list lent = kept list largest lent (listing_of list (length lent)) refl

told_fits : (list : List ℤ) (budget lent : ℕ) (v : Verdict) → listing_of list lent ≡ v → FitsLast (swept_for list budget v).last
unfolding swept_by
told_fits list budget lent (Accepted n) e = fits_as_last _ (last_bounded list n budget (listing_goes list lent n e).0)
told_fits list budget lent (Refused k p) e = tt

pub fits_last : (list : List ℤ) (lent : List ℕ) → FitsLast (swept_alone list lent).last
unfolding swept_alone sweep_of
fits_last list lent = told_fits list largest (length lent) (listing_of list (length lent)) refl

-- the new mode counts no pairs examined
told_zero : (list : List ℤ) (budget : ℕ) (v : Verdict) → (swept_for list budget v).examined ≡ 0
unfolding swept_by
told_zero list budget (Accepted n) = refl
told_zero list budget (Refused number place) = refl

pub none_examined : (list : List ℤ) (lent : List ℕ) → (swept_alone list lent).examined ≡ 0
unfolding swept_alone sweep_of
none_examined list lent = told_zero list largest (listing_of list (length lent))
