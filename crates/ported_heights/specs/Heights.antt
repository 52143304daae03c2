-- The order of two lines at a point's x, and the level line that stands in for an upright piece. No promise rests on
-- these: the code's contracts say them, and proofs/Lines shows that they come to the heights of `sweep`.
use Rattle.std.specs.Prelude.{true, ℤ, pos, ◌-ℤ◌, ◌*ℤ◌}
use Rattle.fractions.specs.Order.{order}
use Rattle.std.specs.declared.cmp.Ordering.{Ordering}
use Rattle.fractions.specs.declared.Point.{Point}
use Rattle.line_segment.specs.declared.LineSegment.{LineSegment}
use Rattle.line_segment.specs.Geometry.{run, rise}
use Rattle.line_segment.specs.Segment.{moment}

-- the lower line first: the x of their common point, by Cramer's rule, against p's x. The terms have the sign of the
-- tilt, so that the answer turns where a is the steeper
unfoldable pub line_order : Point → LineSegment → LineSegment → Ordering
line_order p a b =
    order ((run a *ℤ moment b -ℤ run b *ℤ moment a) *ℤ pos p.d) (p.x *ℤ (run a *ℤ rise b -ℤ rise a *ℤ run b))

-- a piece that is as high as y at every x
unfoldable pub level_at : ℤ → LineSegment
level_at y =
    record { min = record { x = pos 0; y = y; included = true }; max = record { x = pos 1; y = y; included = true } }
