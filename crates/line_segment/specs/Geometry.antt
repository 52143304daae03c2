-- What it means that a point lies on a piece, from geometry alone: the line through the ends, and the order of points.
-- A point is X/D, Y/D, and what is said of it holds for positive D.
use Rattle.std.specs.Prelude.{◌≡◌, Bool, true, false, ◌<◌, ℤ, pos, ◌-ℤ◌, ◌*ℤ◌}
use Rattle.std.specs.declared.cmp.Ordering.{Ordering}
use Rattle.std.specs.declared.cmp.Ordering.TheVariants.{Less, Equal, Greater}
use Rattle.fractions.specs.declared.Point.{Point}
use Rattle.fractions.specs.Point.{point_order}
use Rattle.line_segment.specs.declared.LineSegment.{LineSegment}
use Rattle.line_segment.specs.Piece.{point_of}

-- from end to end along x, and along y
unfoldable pub run : LineSegment → ℤ
run s = s.max.x -ℤ s.min.x

unfoldable pub rise : LineSegment → ℤ
rise s = s.max.y -ℤ s.min.y

-- D times the determinant of min, max and the point: 0 on the line through the ends, and of one sign on each side
unfoldable pub side : LineSegment → Point → ℤ
side s p = run s *ℤ (p.y -ℤ s.min.y *ℤ pos p.d) -ℤ rise s *ℤ (p.x -ℤ s.min.x *ℤ pos p.d)

-- an end that precedes as the order says is no bar; at the end itself, it counts only where it is included
abbrev pub admits : Ordering → Bool → Bool
admits Less included = true
admits Equal included = included
admits Greater included = false

-- the point is on the line through the ends, and between them in the order of points
pub record LiesOn (s : LineSegment) (p : Point) : Type 0 where
  pub line : side s p ≡ pos 0
  pub from : admits (point_order (point_of s.min) p) s.min.included ≡ true
  pub upto : admits (point_order p (point_of s.max)) s.max.included ≡ true

-- the point lies on both pieces
pub record Common (a b : LineSegment) (p : Point) : Type 0 where
  pub positive : 0 < p.d
  pub first : LiesOn a p
  pub second : LiesOn b p

-- both ends of b are on the line through the ends of a
pub record OneLine (a b : LineSegment) : Type 0 where
  pub min : side a (point_of b.min) ≡ pos 0
  pub max : side a (point_of b.max) ≡ pos 0
