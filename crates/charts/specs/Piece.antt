-- The pieces of a list by their numbers, and which of them are upright.
use Rattle.std.specs.Prelude.{Bool, true, cond, not, ◌&&◌, List, ℕ, zero, suc, ℤ, pos, neg_ℤ, nat_abs}
use Rattle.line_segment.specs.declared.LineSegment.{LineSegment}
use Rattle.line_segment.specs.Piece.{piece_of}
use Rattle.charts.specs.Fault.{range, outside, eq_z}
use Rattle.charts.specs.Chart.{number_at}

-- a number as a kind, and as a coordinate; 0 where it is none, which no accepted list has
unfoldable pub kind_of : ℤ → ℕ
kind_of v = cond (outside (pos 0) (pos 3) v) 0 (nat_abs v)

unfoldable pub coordinate_of : ℤ → ℤ
coordinate_of v = cond (outside (neg_ℤ range) range v) (pos 0) v

-- "A piece is five whole numbers: kind, x1, y1, x2, y2."
unfoldable pub piece_at : List ℤ → ℕ → LineSegment
piece_at list i =
    piece_of
    (kind_of (number_at list i 0))
    (coordinate_of (number_at list i 1))
    (coordinate_of (number_at list i 2))
    (coordinate_of (number_at list i 3))
    (coordinate_of (number_at list i 4))

-- "A piece is upright when both x are equal."
unfoldable pub is_upright : LineSegment → Bool
is_upright s = eq_z s.min.x s.max.x

-- "whether the chart has no upright piece", of the first n pieces
unfoldable pub no_upright : List ℤ → ℕ → Bool
no_upright list zero = true
no_upright list (suc i) = no_upright list i && not (is_upright (piece_at list i))
