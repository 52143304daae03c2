-- The list of all pairs of an open chart, under the numbers of their places, and what the call leaves.
use Rattle.std.specs.Prelude.{◌≡◌, Bool, ◌&&◌, List, map, ◌++◌, ℕ, ℤ, length, take, drop, get_or}
use Rattle.line_segment.specs.declared.LineSegment.{LineSegment}
use Rattle.charts.specs.declared.Answer.{Answer}
use Rattle.charts.specs.Verdict.{Verdict}
use Rattle.charts.specs.Verdict.{Accepted, Refused}
use Rattle.charts.specs.Answer.{answer_of, room, then_room}
use Rattle.charts.specs.Piece.{piece_at}
use Rattle.naive.specs.Pairs.{Pair, rows, bytes, over}
use Rattle.naive.specs.AllPairs.{meets}
use Rattle.open_chart.specs.Memory.{places, is_used, used_below}
use Rattle.open_chart.specs.Changes.{whole}

-- "A listing skips free places and names pieces by their own numbers": both places are used, and a asking meets b
unfoldable pub meets_on : List ℤ → ℕ → ℕ → Bool
meets_on chart a b = (is_used chart a && is_used chart b) && meets chart a b

unfoldable pub open_pairs : List ℤ → List Pair
open_pairs chart = rows (meets_on chart) places

-- "8 for a listing lent under n(n-1) bytes, n places used"
unfoldable pub listing_on : List ℤ → ℕ → Verdict
listing_on chart lent = whole chart (then_room room lent (Accepted (length (used_below chart places))))

unfoldable pub open_pairs_of : List ℤ → ℕ → Answer
open_pairs_of chart lent = answer_of (λ n. length (open_pairs chart)) (listing_on chart lent)

abbrev pub written_by : List ℤ → List ℕ → Verdict → List ℕ
written_by chart lent (Accepted n) = over (bytes (open_pairs chart)) lent
written_by chart lent (Refused number place) = lent

unfoldable pub lent_after : List ℤ → List ℕ → List ℕ
lent_after chart lent = written_by chart lent (listing_on chart (length lent))

-- ---- what the code goes by inside: the used pieces beside each other, and their names
pub record Gathered (chart : List ℤ) (n : ℕ) (all : List LineSegment) (names : List ℕ) (count : ℕ) : Type 0 where
  pub counted : count ≡ length (used_below chart n)
  pub pieces : take count all ≡ map (piece_at chart) (used_below chart n)
  pub numbers : take count names ≡ used_below chart n
  pub long : length names ≡ places

abbrev pub named : List ℕ → ℕ → ℕ
named names k = get_or names k 0

unfoldable pub renamed : List ℕ → ℕ → List ℕ → List ℕ
renamed names end pairs = map (named names) (take end pairs) ++ drop end pairs
