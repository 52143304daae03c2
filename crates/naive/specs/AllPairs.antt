-- The list of all pairs of a chart, and what the call on lent bytes leaves.
use Rattle.std.specs.Prelude.{Bool, List, ℕ, ℤ, length}
use Rattle.line_segment.specs.Segment.{intersect_of}
use Rattle.line_segment.specs.Demand.{says_yes}
use Rattle.charts.specs.declared.Answer.{Answer}
use Rattle.charts.specs.Verdict.{Verdict}
use Rattle.charts.specs.Verdict.{Accepted, Refused}
use Rattle.charts.specs.Piece.{piece_at}
use Rattle.charts.specs.Answer.{answer_of, listing_of}
use Rattle.naive.specs.Pairs.{Pair, rows, bytes, over}

-- piece a asking meets piece b
unfoldable pub meets : List ℤ → ℕ → ℕ → Bool
meets list a b = says_yes (intersect_of (piece_at list a) (piece_at list b))

-- the pairs of a chart of n pieces
unfoldable pub pairs_of : List ℤ → ℕ → List Pair
pairs_of list n = rows (meets list) n

-- "Done has place zero; .. a list-making call [returns] the count of pairs."
unfoldable pub all_pairs_of : List ℤ → ℕ → Answer
all_pairs_of list lent = answer_of (λ n. length (pairs_of list n)) (listing_of list lent)

-- "A refusal .. writes nothing into lent memory."
abbrev pub written_by : List ℤ → List ℕ → Verdict → List ℕ
written_by list lent (Accepted n) = over (bytes (pairs_of list n)) lent
written_by list lent (Refused number place) = lent

unfoldable pub lent_after : List ℤ → List ℕ → List ℕ
lent_after list lent = written_by list lent (listing_of list (length lent))
