-- A run of either mode that keeps its promises and has ended lists the meeting pairs in plain order.
-- Assumes nothing.
use mathlib.Core.Path.{◌≡◌, refl, ap, ◌∙◌}
use mathlib.Core.Logic.{◌↔◌, inl, inr, ⊎_elim}
use mathlib.Core.Bool.{Bool, true}
use mathlib.Core.List.{List}
use mathlib.Core.List.{Memᴰ as In}
use Prim.Native.Nat.{ℕ, ◌<◌}
use native.Mathlib.Omega.{arith}
use lib.IntN.{ℤ}
use Rattle.fractions.specs.Point.{point_order}
use Rattle.fractions.specs.declared.Point.{Point}
use Rattle.fractions.proofs.Points.{point_itself}
use Rattle.line_segment.specs.declared.LineSegment.{LineSegment}
use Rattle.line_segment.specs.declared.Meeting.{Meeting}
use Rattle.line_segment.specs.declared.Meeting.TheVariants.{Nothing, Crossing, Overlap}
use Rattle.line_segment.specs.Segment.{intersect_of}
use Rattle.line_segment.specs.Demand.{says_yes}
use Rattle.line_segment.proofs.Promises.{says_yes_exactly}
use Rattle.charts.specs.Chart.{verdict_of}
use Rattle.charts.specs.Piece.{piece_at}
use Rattle.charts.specs.Verdict.{Accepted}
use Rattle.charts.proofs.Accepted.{pieces_have_length}
use Rattle.naive.specs.Pairs.{Pair}
use Rattle.sweep.specs.Chart.{Kind, nothing, crosses, overlaps, Chart, meets, kind}
use Rattle.sweep.specs.Sought.{later, first_by, first}
use Rattle.sweep.specs.Demand.{Run, RunPromises, reordered, NumbersBefore}
use Rattle.sweep.specs.Demand.{Before as Sooner}
use Rattle.sweep.specs.Ported.{is_less, kind_of, ported}
use Rattle.sweep.proofs.Lists.{pairwise_map}
use Rattle.sweep_geometry.specs.Demand.{LeastCommon}
use Rattle.sweep_geometry.proofs.Accepted.{list_proper, run_meetings}
use Rattle.sweep_geometry.proofs.FirstCommon.{first_is_least}
use Rattle.sweep_geometry.proofs.Ranking.{less_is}
use Rattle.plain_order.specs.Order.{before}
use Rattle.plain_order.specs.Plain.{in_order_lem}
use Rattle.plain_order.specs.Demand.{Meeting as Meets}
use Rattle.plain_order.proofs.Promises.{before_exactly, one_order}

yes_meets : (m : Meeting) → meets (kind_of m) ≡ says_yes m
unfolding meets
yes_meets Nothing = refl
yes_meets Crossing = refl
yes_meets (Overlap s) = refl

module _ (list : List ℤ) (n : ℕ) (e : verdict_of list ≡ Accepted n) (ranks : Point → ℕ → ℕ → Bool) where
  abbrev C : Chart
  C = reordered (ported n (piece_at list)) ranks

  -- the sweep's first common point does not depend on its order of pieces
  first_ported : (k : Kind) (q : Pair) → first_by C k q ≡ first_by (ported n (piece_at list)) k q
  unfolding first_by later
  first_ported nothing q = refl
  first_ported crosses q = refl
  first_ported overlaps q = refl

  -- .. and is the least common point
  module _ (q : Pair) (h : Meets list n q) where
    abbrev a : LineSegment
    a = piece_at list q.0

    abbrev b : LineSegment
    b = piece_at list q.1

    swept_first : LeastCommon a b (first C q)
    unfolding first
    swept_first =
        let l : q.0 < n = omega (arith, h.0, h.1) in
        let y = (says_yes_exactly a b (pieces_have_length list n q.0 e l) (pieces_have_length list n q.1 e h.1)).1 h.2 in
        rw (first_ported (kind C q) q)
        (first_is_least n (piece_at list) (list_proper list n e) q (h.0, h.1) (yes_meets (intersect_of a b) ∙ y))

  sooner : (q s : Pair) → Meets list n q → Meets list n s → Sooner C q s → before list q s ≡ true
  sooner q s h k o =
      (before_exactly list n e q s h k (first C q) (first C s) (swept_first q h) (swept_first s k)).1
      (⊎_elim
      (λ (l : is_less (point_order (first C q) (first C s)) ≡ true). inl (less_is (point_order (first C q) (first C s)) l))
      (λ (l : (first C q ≡ first C s) × NumbersBefore C q s). inr (ap (λ (p : Point). point_order p (first C s)) l.0 ∙ point_itself (first C s), l.1))
      o)

  pub run_in_order : (R : Run C) → RunPromises C R → (budget : ℕ) → (R.answer budget).ended ≡ true → (R.answer budget).listed ≡ in_order_lem list n
  run_in_order R P budget g =
      one_order list n e (R.answer budget).listed
      (record {
        same_pairs = all;
        in_order = pairwise_map _ (λ q s. before list q s ≡ true) (R.answer budget).listed
            (λ q s i j o. sooner q s ((all q).0 i) ((all s).0 j) o) (P.lists_in_order budget);
      })
    where
      all : (q : Pair) → In q (R.answer budget).listed ↔ Meets list n q
      all q = run_meetings list n e ranks R P.lists_all budget g q.0 q.1
