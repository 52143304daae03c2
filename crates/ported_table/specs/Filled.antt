-- The array of a chart's pieces, filled piece by piece.
use Rattle.std.specs.Prelude.{cond, List, ℕ, zero, suc, ◌+◌, ◌*◌, ℤ, pos, set}
use Rattle.line_segment.specs.declared.LineSegment.{LineSegment}
use Rattle.charts.specs.Piece.{piece_at}

-- "add 1 if the first end is included, 2 if the second is"
unfoldable pub marks_of : LineSegment → ℕ
marks_of s = cond s.min.included 1 0 + cond s.max.included 2 0

-- piece s written as number i
unfoldable pub written : List ℤ → ℕ → LineSegment → List ℤ
written table i s =
    let at = 5 * i in
    set (set (set (set (set table at s.min.x) (at + 1) s.min.y) (at + 2) s.max.x) (at + 3) s.max.y) (at + 4) (pos (marks_of s))

-- the first n pieces of a list over an array
unfoldable pub filled : List ℤ → ℕ → List ℤ → List ℤ
filled list zero table = table
filled list (suc i) table = written (filled list i table) i (piece_at list i)
