-- Two cheap tests that settle most pairs by the sides on which ends lie. They change no answer, only how soon it is known.
use Rattle.std.specs.Prelude.{Bool, cond, ◌&&◌, List, ℕ, ◌<◌, ℤ, pos, get_or}
use Rattle.std.specs.Int.Signed.{lt_z}
use Rattle.line_segment.specs.declared.LineSegment.{LineSegment}
use Rattle.line_segment.specs.Piece.{point_of, HasLength}
use Rattle.line_segment.specs.Geometry.{side}
use Rattle.naive.specs.Decoded.{blank}

-- both above 0, or both below
unfoldable pub one_side : ℤ → ℤ → Bool
one_side d e = cond (lt_z (pos 0) d) (lt_z (pos 0) e) (lt_z d (pos 0) && lt_z e (pos 0))

-- one above 0, the other below
unfoldable pub two_sides : ℤ → ℤ → Bool
two_sides d e = cond (lt_z (pos 0) d) (lt_z e (pos 0)) (lt_z d (pos 0) && lt_z (pos 0) e)

-- the ends of b lie to one side of the line of a
unfoldable pub beside_of : LineSegment → LineSegment → Bool
beside_of a b = one_side (side a (point_of b.min)) (side a (point_of b.max))

-- they lie on opposite sides of it
unfoldable pub across_of : LineSegment → LineSegment → Bool
across_of a b = two_sides (side a (point_of b.min)) (side a (point_of b.max))

-- the first n pieces of an array have some length, as those of a chart have
pub record Long (all : List LineSegment) (n : ℕ) : Type 0 where
  pub long : (i : ℕ) → i < n → HasLength (get_or all i blank)
