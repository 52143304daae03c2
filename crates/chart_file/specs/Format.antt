-- The file of a chart: "The count, then the five numbers of each piece, then the end."
use Rattle.std.specs.Prelude.{List, [], ◌∷◌, ◌++◌, ℕ, zero, suc, ◌+◌, ◌*◌, ◌/◌, ◌%◌, ℤ, nat_abs, length}
use Rattle.charts.specs.Chart.{most}
use Rattle.chart_file.specs.Groups.{spelled}
use Rattle.chart_file.specs.Coordinate.{stored}

-- "in the fewest groups, at most three"
abbrev pub groups : ℕ
groups = 3

-- number c of a piece: "The kind stands plainly", in one byte, and a coordinate as it is stored, in groups
unfoldable pub bytes_of : ℕ → ℤ → List ℕ
bytes_of zero v = nat_abs v ∷ []
bytes_of (suc c) v = spelled groups (stored v)

-- a list's numbers, the first of which is number i
unfoldable pub bytes_from : ℕ → List ℤ → List ℕ
bytes_from i [] = []
bytes_from i (v ∷ vs) = bytes_of (i % 5) v ++ bytes_from (suc i) vs

-- "The count stands in groups" (2026-07)
abbrev pub count_of : ℕ → List ℕ
count_of n = spelled groups n

unfoldable pub file_of : List ℤ → List ℕ
file_of list = count_of (length list / 5) ++ bytes_from 0 list

-- "The longest file has 2,602 bytes": two for the count, and for each piece one and four coordinates
abbrev pub longest : ℕ
longest = 2 + (1 + 4 * groups) * most
