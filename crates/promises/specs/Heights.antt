-- "A piece's height at such a point's x has larger terms: below 2^49 under the line, below 2^64 in size above it."
use Rattle.std.specs.Prelude.{◌^◌, ◌<◌, ℤ, pos, nat_abs, ◌*ℤ◌, ◌≤ℤ◌}
use Rattle.fractions.specs.Point.{Bounded}
use Rattle.fractions.specs.declared.Point.{Point}
use Rattle.line_segment.specs.declared.LineSegment.{LineSegment}
use Rattle.line_segment.specs.Demand.{OnChart}
use Rattle.sweep.specs.Ported.{height_above, height_below}

-- the point's x lies between those of the piece's ends
pub record Between (s : LineSegment) (p : Point) : Type 0 where
  pub from : (s.min.x *ℤ pos p.d) ≤ℤ p.x
  pub upto : p.x ≤ℤ (s.max.x *ℤ pos p.d)

pub record FitsHeight (above below : ℤ) : Type 0 where
  pub under : nat_abs below < 2 ^ 49
  pub over : nat_abs above < 2 ^ 64

-- of a piece of a chart and a point within the bounds, upright pieces too
abbrev pub HeightsBounded : Type 0
HeightsBounded =
    (s : LineSegment) (p : Point) → OnChart s → Bounded p → Between s p → FitsHeight (height_above s p) (height_below s p)
