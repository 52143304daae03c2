-- The first common point of two pieces that meet is the least point of both with their ends added.
-- Assumes nothing.
use mathlib.Core.Path.{◌≡◌, refl, sym, ap, ◌∙◌}
use Prim.Native.Nat.{ℕ, zero, suc, ◌<◌, ◌/◌}
use native.Mathlib.Nat.{zero-div}
use native.Mathlib.Omega.{arith}
use Rattle.fractions.specs.Order.{turned}
use Rattle.fractions.specs.Point.{common, lowest_of, point_order}
use Rattle.std.specs.declared.cmp.Ordering.TheVariants.{Equal}
use Rattle.fractions.specs.declared.Point.{Point}
use Rattle.fractions.proofs.Points.{point_turned, point_alike}
use Rattle.fractions.proofs.Promises.{lowest_terms}
use Rattle.line_segment.specs.declared.LineSegment.{LineSegment}
use Rattle.line_segment.specs.declared.Meeting.{Meeting}
use Rattle.line_segment.specs.declared.Meeting.TheVariants.{Nothing, Crossing, Overlap}
use Rattle.line_segment.specs.Piece.{HasLength, point_of, closed}
use Rattle.line_segment.specs.Geometry.{Common}
use Rattle.line_segment.specs.Segment.{intersect_of, cramer_of, crossing_of}
use Rattle.line_segment.specs.Demand.{says_yes, OnlyPoint}
use Rattle.line_segment.proofs.Promises.{says_yes_exactly, crossing_is_cramers, overlap_ends}
use Rattle.line_segment.proofs.CramersPoint.{crossing_same}
use Rattle.line_segment.proofs.Lying.{same_lies, same_side, lies_closed, closed_line, closed_from}
use Rattle.sweep.proofs.Tests.{clash}
use Rattle.sweep_geometry.specs.Demand.{LeastCommon}
use Rattle.sweep_geometry.proofs.Comparisons.{never}
use Rattle.plain_order.specs.Order.{first_by, first_of}
use Rattle.plain_order.specs.Demand.{FirstIsLeast}

-- another way to write the least common point
same_least : (a b : LineSegment) (p q : Point) → 0 < q.d → point_order p q ≡ Equal → LeastCommon a b p → LeastCommon a b q
same_least a b p q hq e h =
    let hp = h.common.positive in
    record {
      common = record {
        positive = hq;
        first = same_lies (closed a) p q hp hq e h.common.first;
        second = same_lies (closed b) p q hp hq e h.common.second;
      };
      least = λ r c g. h.least r c (point_alike p q r hp hq e ∙ g);
    }

module _ (a b : LineSegment) (la : HasLength a) (lb : HasLength b) where
  -- a point on both lines is the crossing
  only_there : OnlyPoint a b (crossing_of a b) → (q : Point) → Common (closed a) (closed b) q → point_order (crossing_of a b) q ≡ Equal
  only_there m q k =
      let l : Point = lowest_of q.x q.y q.d in
      let w = lowest_terms.lowest q.x q.y q.d k.positive in
      let back : point_order l q ≡ Equal = lowest_terms.same q.x q.y q.d in
      let there : point_order q l ≡ Equal = point_turned l q ∙ ap turned back in
      let is = m.only l w (same_side a q l k.positive w.positive there (closed_line a q k.first)) (same_side b q l k.positive w.positive there (closed_line b q k.second)) in
      ap (λ (p : Point). point_order p q) (sym is) ∙ back

  least_crossing : OnlyPoint a b (crossing_of a b) → LeastCommon a b (crossing_of a b)
  least_crossing m =
      record {
        common = record { positive = m.common.positive; first = lies_closed a _ m.common.first; second = lies_closed b _ m.common.second };
        least = λ q k g. never (only_there m q k) g (omega arith);
      }

  -- in lowest terms or not, it is over a positive number
  cramer_positive : 0 < (crossing_of a b).d → 0 < (cramer_of a b).d
  unfolding crossing_of lowest_of
  cramer_positive h = go (cramer_of a b).d refl
    where
      go : (d : ℕ) → (cramer_of a b).d ≡ d → 0 < d
      go zero e =
          let g = common (cramer_of a b).x (cramer_of a b).y (cramer_of a b).d in
          let none : (cramer_of a b).d / g ≡ 0 = ap (λ (n : ℕ). n / g) e ∙ zero-div g in
          absurd (omega arith)
      go (suc d) e = omega arith

  at_crossing : intersect_of a b ≡ Crossing → LeastCommon a b (cramer_of a b)
  at_crossing e =
      let c = (crossing_is_cramers a b la lb e).1 in
      same_least a b (crossing_of a b) (cramer_of a b) (cramer_positive c.common.positive) (crossing_same a b) (least_crossing c)

  -- of a stretch it is where the stretch begins
  at_start : (s : LineSegment) → intersect_of a b ≡ Overlap s → LeastCommon a b (point_of s.min)
  at_start s e =
      let c = overlap_ends a b s la lb e in
      record { common = c.first; least = λ q k. closed_from s q (c.ends q k) }

pub first_is_least : FirstIsLeast
unfolding first_of
first_is_least a b la lb m = go (intersect_of a b) refl
  where
    go : (t : Meeting) → intersect_of a b ≡ t → LeastCommon a b (first_by t (cramer_of a b))
    go Nothing e = clash ((says_yes_exactly a b la lb).1 m) (ap says_yes e)
    go Crossing e = at_crossing a b la lb e
    go (Overlap s) e = at_start a b la lb s e
