-- The pieces of a chart in an array, and the test of two of its places.
use Rattle.std.specs.Prelude.{Bool, false, List, [], ◌∷◌, ◌++◌, ℕ, zero, suc, ℤ, pos, get_or}
use Rattle.line_segment.specs.declared.EndPoint.{EndPoint}
use Rattle.line_segment.specs.declared.LineSegment.{LineSegment}
use Rattle.line_segment.specs.Segment.{intersect_of}
use Rattle.line_segment.specs.Demand.{says_yes}
use Rattle.charts.specs.Piece.{piece_at}

-- the first n pieces of a list
unfoldable pub pieces_of : List ℤ → ℕ → List LineSegment
pieces_of list zero = []
pieces_of list (suc i) = pieces_of list i ++ (piece_at list i ∷ [])

-- what is read past the end
abbrev pub origin : EndPoint
origin = record { x = pos 0; y = pos 0; included = false }

abbrev pub blank : LineSegment
blank = record { min = origin; max = origin }

unfoldable pub meets_in : List LineSegment → ℕ → ℕ → Bool
meets_in all a b = says_yes (intersect_of (get_or all a blank) (get_or all b blank))
