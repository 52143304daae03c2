-- Two pieces that meet have a first common point, the least of the two with their ends added; what the sweep takes for it is that.
use mathlib.Core.Path.{◌≡◌, refl, sym, ap, ◌∙◌, subst}
use mathlib.Core.Logic.{◌⊎◌, inl, inr, ⊎_elim}
use mathlib.Core.Bool.{true, false}
use Prim.Native.Nat.{ℕ, ◌<◌, ◌/◌}
use native.Mathlib.Nat.{zero-div}
use native.Mathlib.Omega.{arith}
use lib.IntN.{ℤ, pos, ◌-ℤ◌, ◌*ℤ◌}
use Rattle.fractions.specs.Point.{common, lowest_of, point_order}
use Rattle.std.specs.declared.cmp.Ordering.TheVariants.{Equal, Greater}
use Rattle.fractions.specs.declared.Point.{Point}
use Rattle.fractions.proofs.Points.{point_alike, less_at_most}
use Rattle.line_segment.specs.declared.LineSegment.{LineSegment}
use Rattle.line_segment.specs.declared.Meeting.{Meeting}
use Rattle.line_segment.specs.declared.Meeting.TheVariants.{Nothing, Crossing, Overlap}
use Rattle.line_segment.specs.Piece.{point_of, end_order, HasLength, closed}
use Rattle.line_segment.specs.Geometry.{run, rise, Common}
use Rattle.line_segment.specs.Segment.{moment, over, cramer_of, crossing_of, intersect_of}
use Rattle.line_segment.specs.Demand.{says_yes, Meet, OnlyPoint}
use Rattle.line_segment.proofs.Booleans.{clash}
use Rattle.line_segment.proofs.Promises.{says_yes_exactly, crossing_is_cramers, overlap_ends}
use Rattle.line_segment.proofs.Lying.{whole, closed_line, closed_from, closed_upto, lies_closed}
use Rattle.line_segment.proofs.Sides.{tilt, one_point}
use Rattle.sweep.specs.Chart.{crosses, overlaps, kind}
use Rattle.sweep.specs.Ported.{is_less, ported}
use Rattle.sweep.specs.Sought.{later}
use Rattle.sweep.proofs.Tests.{ask}
use Rattle.sweep.proofs.First.{meets_two, first_crosses, first_overlaps}
use Rattle.sweep_geometry.specs.Demand.{LeastCommon, FirstCommon, FirstIsLeast}
use Rattle.sweep_geometry.proofs.Comparisons.{never, Said, said_less, said_equal, said_greater, say}
use Rattle.sweep_geometry.proofs.Supply.{kind_crosses, On, overlap_on}

-- over 0 there is no point
over_zero : (x y z : ℤ) → z ≡ pos 0 → (over x y z).d ≡ 0
unfolding over
over_zero x y z e = ap (λ (w : ℤ). (over x y w).d) e

no_tilt : (a b : LineSegment) → tilt a b ≡ pos 0 → (crossing_of a b).d ≡ 0
unfolding crossing_of lowest_of cramer_of tilt run rise
no_tilt a b e =
    let d : (cramer_of a b).d ≡ 0 = over_zero (run a *ℤ moment b -ℤ run b *ℤ moment a) (rise a *ℤ moment b -ℤ rise b *ℤ moment a) (tilt a b) e in
    ap (λ (n : ℕ). n / common (cramer_of a b).x (cramer_of a b).y (cramer_of a b).d) d ∙ zero-div (common (cramer_of a b).x (cramer_of a b).y (cramer_of a b).d)

module _ (a b : LineSegment) where
  least_crossing : OnlyPoint a b (crossing_of a b) → LeastCommon a b (crossing_of a b)
  least_crossing m =
      let c : Point = crossing_of a b in
      record {
        common = record {
          positive = m.common.positive;
          first = lies_closed a c m.common.first;
          second = lies_closed b c m.common.second;
        };
        least = λ q k g.
            never
            (one_point a b (λ e. omega (arith, no_tilt a b e, m.common.positive)) c q m.common.first.line m.common.second.line
            (closed_line a q k.first) (closed_line b q k.second))
            g (omega arith);
      }

  -- the later of the two mins, where it lies on both
  least_later : (p : Point) → 0 < p.d → On a p → On b p → (p ≡ point_of a.min) ⊎ (p ≡ point_of b.min) → LeastCommon a b p
  least_later p d oa ob which =
      record {
        common = record { positive = d; first = oa; second = ob };
        least = λ q k. ⊎_elim
            (λ (e : p ≡ point_of a.min). subst (λ (z : Point). ¬ (point_order z q ≡ Greater)) (sym e) (closed_from a q k.first))
            (λ (e : p ≡ point_of b.min). subst (λ (z : Point). ¬ (point_order z q ≡ Greater)) (sym e) (closed_from b q k.second))
            which;
      }

pub first_is_least : FirstIsLeast
unfolding later
first_is_least n piece ok q v e =
    let a : LineSegment = piece q.0 in
    let b : LineSegment = piece q.1 in
    let la : HasLength a = (ok q.0 (omega arith)).length in
    let lb : HasLength b = (ok q.1 v.1).length in
    ⊎_elim
    (λ (k : kind (ported n piece) q ≡ crosses).
    rw (first_crosses (ported n piece) q k) (least_crossing a b (crossing_is_cramers a b la lb (kind_crosses _ k)).1))
    (λ (k : kind (ported n piece) q ≡ overlaps).
    let o = overlap_on a b la lb k in
    rw (first_overlaps (ported n piece) q k)
    (⊎_elim
    (λ (h : is_less (point_order (point_of a.min) (point_of b.min)) ≡ true). rw h (least_later a b (point_of b.min) (whole b.min) (rw h at o.0) (rw h at o.1) (inr refl)))
    (λ (h : is_less (point_order (point_of a.min) (point_of b.min)) ≡ false). rw h (least_later a b (point_of a.min) (whole a.min) (rw h at o.0) (rw h at o.1) (inl refl)))
    (ask (is_less (point_order (point_of a.min) (point_of b.min))))))
    (meets_two (kind (ported n piece) q) e)

-- ---- any two pieces that meet, of some length or of none
-- a piece of no length has one point
no_length : (s : LineSegment) → ¬ HasLength s → (p : Point) → 0 < p.d → On s p → point_order (point_of s.min) p ≡ Equal
unfolding end_order
no_length s f p d o = go (say (point_order (point_of s.min) p))
  where
    go : Said (point_order (point_of s.min) p) → point_order (point_of s.min) p ≡ Equal
    go (said_less e) = absurd (f (less_at_most (point_of s.min) p (point_of s.max) (whole s.min) d (whole s.max) e (closed_upto s p o)))
    go (said_equal e) = e
    go (said_greater e) = absurd (closed_from s p o e)

one_only : (s : LineSegment) → ¬ HasLength s → (p q : Point) → 0 < p.d → 0 < q.d → On s p → On s q → point_order p q ≡ Equal
one_only s f p q dp dq op oq =
    sym (point_alike (point_of s.min) p q (whole s.min) dp (no_length s f p dp op)) ∙ no_length s f q dq oq

module _ (a b : LineSegment) (m : Meet a b) where
  in_both : Common (closed a) (closed b) m.0
  in_both = record { positive = m.1.positive; first = lies_closed a m.0 m.1.first; second = lies_closed b m.0 m.1.second }

  least_only : ((q : Point) → Common (closed a) (closed b) q → point_order m.0 q ≡ Equal) → LeastCommon a b m.0
  least_only only = record { common = in_both; least = λ q k g. never (only q k) g (omega arith) }

  by_lengths : Dec (HasLength a) → Dec (HasLength b) → (p : Point) × LeastCommon a b p
  by_lengths (yes la) (yes lb) = met (intersect_of a b) refl ((says_yes_exactly a b la lb).1 m)
    where
      met : (t : Meeting) → intersect_of a b ≡ t → says_yes t ≡ true → (p : Point) × LeastCommon a b p
      met Nothing e y = clash y
      met Crossing e y = (crossing_of a b, least_crossing a b (crossing_is_cramers a b la lb e).1)
      met (Overlap s) e y =
          let part = overlap_ends a b s la lb e in
          (point_of s.min, record { common = part.first; least = λ q k. closed_from s q (part.ends q k) })
  by_lengths (no f) d = (m.0, least_only (λ q k. one_only a f m.0 q m.1.positive k.positive in_both.first k.first))
  by_lengths (yes la) (no f) = (m.0, least_only (λ q k. one_only b f m.0 q m.1.positive k.positive in_both.second k.second))

long : (s : LineSegment) → Dec (HasLength s)
long s = go (say (end_order s.min s.max))
  where
    go : Said (end_order s.min s.max) → Dec (HasLength s)
    go (said_less e) = yes e
    go (said_equal e) = no (λ h. never e h (omega arith))
    go (said_greater e) = no (λ h. never e h (omega arith))

pub first_common : FirstCommon
first_common a b m = by_lengths a b m (long a) (long b)
