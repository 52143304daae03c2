-- The places of an open chart in a list of numbers, and what stands at each.
use Rattle.std.specs.Prelude.{Bool, cond, List, [], ◌∷◌, ◌++◌, ℕ, zero, suc, ◌*◌, ◌+◌, eqb, ltb, ℤ, negsuc, take, drop}
use Rattle.charts.specs.Chart.{fault_at}

-- "An open chart has 200 places, numbered from 0, in 1,000 lent numbers, five a place."
abbrev pub places : ℕ
places = 200

abbrev pub memory : ℕ
memory = 5 * places

abbrev pub five : ℤ → ℤ → ℤ → ℤ → ℤ → List ℤ
five kind x1 y1 x2 y2 = kind ∷ x1 ∷ y1 ∷ x2 ∷ y2 ∷ []

-- "A place is used when its five numbers are a piece, one that meets none of 4, 5 and 6, and free otherwise"
unfoldable pub is_used : List ℤ → ℕ → Bool
is_used chart i = eqb (fault_at chart i) 0

-- the used places below n, in order
unfoldable pub used_below : List ℤ → ℕ → List ℕ
used_below chart zero = []
used_below chart (suc i) = used_below chart i ++ cond (is_used chart i) (i ∷ []) []

-- the lowest free place below n; n where all are used
unfoldable pub lowest_free : List ℤ → ℕ → ℕ
lowest_free chart zero = 0
lowest_free chart (suc i) = cond (ltb (lowest_free chart i) i) (lowest_free chart i) (cond (is_used chart i) (suc i) i)

-- "A free place that a call leaves has -1 five times."
abbrev pub vacant : List ℤ
vacant = five (negsuc 0) (negsuc 0) (negsuc 0) (negsuc 0) (negsuc 0)

-- five numbers at a place, every other number as it was
unfoldable pub written : List ℤ → ℕ → List ℤ → List ℤ
written chart i numbers = take (5 * i) chart ++ numbers ++ drop (5 * i + 5) chart
