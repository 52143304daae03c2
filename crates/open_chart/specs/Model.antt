-- An open chart as a list of places, each free or with a piece, without numbers and without refusals: what a person keeps in
-- mind of a day of changes.
use Rattle.std.specs.Prelude.{Bool, false, cond, List, [], ◌∷◌, ℕ, zero, suc, ℤ, length, get_or, set}
use Rattle.line_segment.specs.declared.LineSegment.{LineSegment}
use Rattle.line_segment.specs.Segment.{intersect_of}
use Rattle.line_segment.specs.Demand.{says_yes}
use Rattle.charts.specs.Piece.{piece_at}
use Rattle.naive.specs.Pairs.{Pair, rows}
use Rattle.open_chart.specs.Memory.{places, five, is_used}
use Rattle.open_chart.specs.Changes.{after_adding, after_dropping}

-- what stands at a place
pub data Content : Type 0 where
  free : Content
  piece : LineSegment → Content

-- ---- of lent memory
abbrev pub content_at : List ℤ → ℕ → Content
content_at chart i = cond (is_used chart i) (piece (piece_at chart i)) free

-- n places from i on
unfoldable pub contents_from : List ℤ → ℕ → ℕ → List Content
contents_from chart zero i = []
contents_from chart (suc n) i = content_at chart i ∷ contents_from chart n (suc i)

abbrev pub contents : List ℤ → List Content
contents chart = contents_from chart places 0

-- ---- changes
pub data Change : Type 0 where
  Add : ℤ → ℤ → ℤ → ℤ → ℤ → Change
  Drop : ℕ → Change

-- "A new piece takes the lowest free number"; the count of places where none is free
unfoldable pub lowest : List Content → ℕ
lowest [] = 0
lowest (free ∷ l) = 0
lowest (piece s ∷ l) = suc (lowest l)

-- five numbers that are no piece leave the lowest free place free, and a number that no place has changes nothing
abbrev pub changed : List Content → Change → List Content
changed l (Add kind x1 y1 x2 y2) = set l (lowest l) (content_at (five kind x1 y1 x2 y2) 0)
changed l (Drop i) = set l i free

abbrev pub changed_all : List Content → List Change → List Content
changed_all l [] = l
changed_all l (c ∷ cs) = changed_all (changed l c) cs

-- the same changes by the calls
abbrev pub after : List ℤ → Change → List ℤ
after chart (Add kind x1 y1 x2 y2) = after_adding chart (five kind x1 y1 x2 y2)
after chart (Drop i) = after_dropping chart i

abbrev pub after_all : List ℤ → List Change → List ℤ
after_all chart [] = chart
after_all chart (c ∷ cs) = after_all (after chart c) cs

-- ---- the list of all pairs "worked out afresh"
abbrev pub asked : Content → Content → Bool
asked (piece s) (piece t) = says_yes (intersect_of s t)
asked (piece s) free = false
asked free c = false

abbrev pub afresh : List Content → List Pair
afresh l = rows (λ a b. asked (get_or l a free) (get_or l b free)) (length l)
