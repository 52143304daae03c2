-- A half-line against a piece by the Rust's cases, in the Rust's order.
use Rattle.std.specs.Prelude.{cond, ◌&&◌, Option, None, Some}
use Rattle.orientation.specs.Turn.{det, turn_of, is_straight, same_turn}
use Rattle.orientation.specs.declared.Orientation.{Orientation}
use Rattle.orientation.specs.declared.Orientation.TheVariants.{CoLinear}
use Rattle.line_segment.specs.declared.EndPoint.{EndPoint}
use Rattle.line_segment.specs.declared.LineSegment.{LineSegment}
use Rattle.line_segment.specs.Segment.{opposed}
use Rattle.half_line.specs.declared.Corner.{Corner}

unfoldable pub point_turn : Corner → Corner → Corner → Orientation
point_turn a b c = turn_of (det a.x a.y b.x b.y c.x c.y)

-- the point of an end
abbrev pub corner_of : EndPoint → Corner
corner_of e = record { x = e.x; y = e.y }

-- one end on the line: a crossing where the start lies on the side of the other end
abbrev pub leans_of : Orientation → Orientation → Option Orientation
leans_of side start = cond (same_turn side start) (Some side) None

-- the ends on opposite sides of the line, and the piece on the start's side of them
abbrev pub passes_of : Orientation → Orientation → Orientation → Option Orientation
passes_of min max start = cond (opposed min max && opposed min start) (Some CoLinear) None

-- the half-line's two points and the piece: how its ends lie to the line, and how the start lies to the piece from
-- either end
unfoldable pub half_line_of : Corner → Corner → LineSegment → Option Orientation
half_line_of start through s =
    let min = corner_of s.min in
    let max = corner_of s.max in
    let to_min = point_turn start through min in
    let to_max = point_turn start through max in
    cond (is_straight to_min && is_straight to_max) None
    (cond (is_straight to_min) (leans_of to_max (point_turn min max start))
    (cond (is_straight to_max) (leans_of to_min (point_turn max min start))
    (passes_of to_min to_max (point_turn min max start))))
