-- The useless programs are shut out: by the empty chart, by one piece, and by the scope's first example.
-- Assumes nothing.
use mathlib.Core.Path.{◌≡◌, refl, sym, ap, ◌∙◌, subst}
use mathlib.Core.Logic.{⊎_elim}
use mathlib.Core.Bool.{true, cond}
use mathlib.Core.List.{List, [], ◌∷◌}
use mathlib.Core.List.Memᴰ.{head as here}
use mathlib.Core.List.Memᴰ.{tail as there}
use mathlib.Core.List.{Memᴰ as In}
use Prim.Native.Nat.{ℕ, ◌*◌, ◌≤◌}
use native.Mathlib.Omega.{arith}
use lib.Dec.{eqb}
use lib.IntN.{ℤ, pos}
use lib.ListN.{length, take}
use Rattle.fractions.specs.Order.{order}
use Rattle.fractions.specs.Fraction.{ratio_order}
use Rattle.fractions.specs.Point.{point_order, whole_of}
use Rattle.fractions.specs.declared.Point.{Point}
use Rattle.fractions.proofs.Promises.{orders_points}
use Rattle.line_segment.specs.Piece.{point_of, end_order, first_included, second_included, join_by, join_of, piece_of}
use Rattle.line_segment.specs.Geometry.{run, rise, side}
use Rattle.line_segment.specs.Demand.{Meet}
use Rattle.charts.specs.Fault.{outside, off_range, eq_z, same_ends, fault_of}
use Rattle.charts.specs.Chart.{number_at, fault_at, pieces, verdict_of}
use Rattle.charts.specs.Piece.{kind_of, coordinate_of, piece_at, is_upright, no_upright}
use Rattle.charts.specs.Answer.{answer_of, room, listing_of}
use Rattle.charts.specs.PairList.{pairs_in}
use Rattle.charts.specs.Verdict.{Verdict}
use Rattle.charts.specs.Verdict.{Accepted, Refused}
use Rattle.charts.proofs.Accepted.{pieces_have_length}
use Rattle.charts.proofs.Listing.{listing_refuses_exactly, listing_goes}
use Rattle.sweep.specs.Lists.{Pair}
use Rattle.bentley_ottmann.specs.declared.Swept.{Swept}
use Rattle.bentley_ottmann.specs.Swept.{refused_with, sweep_of, lent_after}
use Rattle.promises.specs.Chart.{NoneUpright, AllPoints, EndOrCrossing, a_min, a_max, a_crossing}
use Rattle.promises.specs.AllPairs as pairs
use Rattle.promises.specs.Sweep.{Ported, Refusals, CountsSteps, VisitsInOrder}
use Rattle.promises.specs.Useless.{RefusesAll, ListsNothing, IdlesAfterOne, inventing, InventsSteps, ShutOut}
use Rattle.promises.proofs.Geometry.{none_upright}
use Rattle.promises.proofs.Ported.{ported_promises}

-- ---- three charts: none, (0,0)-(1,0), and the scope's first example
one : List ℤ
one = pos 3 ∷ pos 0 ∷ pos 0 ∷ pos 1 ∷ pos 0 ∷ []

two : List ℤ
two = pos 3 ∷ pos 0 ∷ pos 0 ∷ pos 4 ∷ pos 4 ∷ pos 3 ∷ pos 0 ∷ pos 4 ∷ pos 4 ∷ pos 0 ∷ []

none_goes : listing_of [] 0 ≡ Accepted 0
unfolding listing_of verdict_of pieces room
none_goes = refl

one_goes : listing_of one 0 ≡ Accepted 1
unfolding one listing_of verdict_of pieces fault_at fault_of number_at outside off_range eq_z same_ends room
one_goes = refl

two_goes : listing_of two 2 ≡ Accepted 2
unfolding two listing_of verdict_of pieces fault_at fault_of number_at outside off_range eq_z same_ends room
two_goes = refl

-- they cross at (2, 2)
two_meet : Meet (piece_at two 1) (piece_at two 0)
unfolding two piece_at number_at kind_of coordinate_of outside piece_of join_of join_by end_order point_order ratio_order order point_of first_included second_included side run rise
two_meet =
    (whole_of (pos 2) (pos 2), record { positive = omega arith; first = record { line = refl; from = refl; upto = refl }; second = record { line = refl; from = refl; upto = refl } })

-- ---- two different members make a list of two or more
at_least_two : {A : Type 0} (p q : A) (l : List A) → In p l → In q l → ¬ (p ≡ q) → 2 ≤ length l
at_least_two p q [] h k n = elim h [ ]
at_least_two p q (x ∷ []) (here d) (here e) n = absurd (n (d ∙ sym e))
at_least_two p q (x ∷ []) (here d) (there k) n = elim k [ ]
at_least_two p q (x ∷ []) (there h) k n = elim h [ ]
at_least_two p q (x ∷ y ∷ l) h k n = omega arith

-- ---- shut out
refuses_all : ¬ Refusals RefusesAll
refuses_all P =
    let d = ((P 0).refuses_exactly ([], []) (refused_with 8 0, []) (refl, refl) 8 0 (omega arith)).0 (refl, refl) in
    let e = (listing_refuses_exactly [] 0 (Refused 8 0)).1 d in
    let z : ◌≡◌ {A = ℕ} 0 1 = cc (e, none_goes) in
    omega arith

nothing_in : {q : Pair} (l : List ℕ) → In q (pairs_in (take (2 * 0) l)) → ⊥
unfolding pairs_in
nothing_in l m = elim m [ ]

lists_nothing : ¬ pairs.ListsExactly ListsNothing
lists_nothing P =
    let m = (P two 2 (0 ∷ 0 ∷ []) _ (0 ∷ 0 ∷ []) ((listing_refuses_exactly two 2 (Accepted 2)).0 two_goes) (refl, refl) 1 0).1 (omega arith, omega arith, two_meet) in
    nothing_in (0 ∷ 0 ∷ []) (subst (λ (k : ℕ). In (1, 0) (pairs_in (take (2 * k) (0 ∷ 0 ∷ [])))) (ap (λ (v : Verdict). (answer_of (λ n. 0) v).count) two_goes) m)

-- the two ends of the one piece are two points
one_flat : no_upright one 1 ≡ true
unfolding one no_upright is_upright eq_z piece_at number_at kind_of coordinate_of outside piece_of join_of join_by end_order point_order ratio_order order point_of first_included second_included
one_flat = refl

one_long : ¬ (point_of (piece_at one 0).min ≡ point_of (piece_at one 0).max)
unfolding end_order
one_long e =
    let l = pieces_have_length one 1 0 (listing_goes one 0 1 one_goes).0 (omega arith) in
    let q = ap (λ (p : Point). point_order p (point_of (piece_at one 0).max)) e ∙ orders_points.itself (point_of (piece_at one 0).max) in
    let z : ◌≡◌ {A = ℕ} 0 1 = cc (l, q) in
    omega arith

one_ends : (points : List Point) → AllPoints one 1 points → 2 ≤ length points
one_ends points a =
    at_least_two (point_of (piece_at one 0).min) (point_of (piece_at one 0).max) points
    ((a.all_of _).1 (a_min 0 (omega arith) refl)) ((a.all_of _).1 (a_max 0 (omega arith) refl)) one_long

idles_after_one : ¬ CountsSteps IdlesAfterOne
idles_after_one P =
    let c = (listing_refuses_exactly one 0 (Accepted 1)).0 one_goes in
    let r : Swept = sweep_of one 1 0 in
    let o : Ported one 1 [] r (lent_after one 1 []) = record { returned = refl; left = refl } in
    let v = ported_promises.visits_in_order one 1 1 [] r (lent_after one 1 []) c o ((none_upright one 1).0 one_flat) in
    let t = P one 1 2 [] r (lent_after one 1 []) c o in
    ⊎_elim
    (λ (e : r.ended ≡ true). absurd (omega (arith, v.2.ended.0 e, one_ends v.0 v.1)))
    (λ (e : r.steps ≡ 2). absurd (omega (arith, v.2.steps, e)))
    t.1

-- the empty chart has no point to visit
no_points : (points : List Point) → AllPoints [] 0 points → length points ≡ 0
no_points [] a = refl
no_points (p ∷ l) a = absurd (no ((a.all_of p).0 (here refl)))
  where
    no : EndOrCrossing [] 0 p → ⊥
    no (a_min i h d) = omega arith
    no (a_max i h d) = omega arith
    no (a_crossing i j h k d) = omega arith

invents_steps : ¬ VisitsInOrder InventsSteps NoneUpright
invents_steps P =
    let c = (listing_refuses_exactly [] 0 (Accepted 0)).0 none_goes in
    let s : Swept = sweep_of [] 1 0 in
    let o : Ported [] 1 [] s (lent_after [] 1 []) = record { returned = refl; left = refl } in
    let z = ((ported_promises.refusals 1).done_exactly ([], []) (s, lent_after [] 1 []) o).0.1 (0, c) in
    let v = P [] 0 1 [] (inventing 1 s) (lent_after [] 1 []) c (s, o, refl) (λ i h. absurd (omega arith)) in
    let e : (inventing 1 s).steps ≡ 1 = ap (λ (k : ℕ). cond (eqb k 0) 1 0) z in
    omega (arith, v.2.steps, e, no_points v.0 v.1)

pub shut_out : ShutOut
shut_out = record { refuses_all = refuses_all; lists_nothing = lists_nothing; idles_after_one = idles_after_one; invents_steps = invents_steps }
