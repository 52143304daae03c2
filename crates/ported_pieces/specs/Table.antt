-- The pieces of a chart in one array, five numbers a piece: min's x and y, max's x and y, and the marks of both.
use Rattle.std.specs.Prelude.{List, ℕ, ◌+◌, ◌*◌, ℤ, pos, nat_abs, get_or}
use Rattle.fractions.specs.declared.Point.{Point}
use Rattle.line_segment.specs.declared.LineSegment.{LineSegment}
use Rattle.line_segment.specs.Piece.{first_included, second_included}
use Rattle.line_segment.specs.Segment.{cramer_of}
use Rattle.sweep.specs.Lists.{Pair}
use Rattle.sweep.specs.Chart.{Chart}
use Rattle.sweep.specs.Ported.{ported}

-- a number of the array, 0 past its end
abbrev pub number_in : List ℤ → ℕ → ℤ
number_in table at = get_or table at (pos 0)

-- a piece from its five numbers, with marks as a kind has them: 1 where min is included, 2 where max is
abbrev pub piece_of : ℤ → ℤ → ℤ → ℤ → ℤ → LineSegment
piece_of x y x' y' kind =
    let marks = nat_abs kind in
    record {
      min = record { x = x; y = y; included = first_included marks };
      max = record { x = x'; y = y'; included = second_included marks };
    }

unfoldable pub piece_in : List ℤ → ℕ → LineSegment
piece_in table i =
    piece_of (number_in table (5 * i)) (number_in table (5 * i + 1)) (number_in table (5 * i + 2)) (number_in table (5 * i + 3)) (number_in table (5 * i + 4))

-- the first n pieces as a chart
abbrev pub chart_in : ℕ → List ℤ → Chart
chart_in n table = ported n (piece_in table)

-- where the lines of two pieces meet, by Cramer's rule and not in lowest terms
unfoldable pub rough_at : List ℤ → Pair → Point
rough_at table q = cramer_of (piece_in table q.0) (piece_in table q.1)
