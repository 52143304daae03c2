-- A list of pairs of pieces, by their numbers, and its bytes; one number for a pair.
use Rattle.std.specs.Prelude.{List, [], ◌∷◌, ℕ, ◌+◌, ◌*◌, ◌/◌, ◌%◌}
use mathlib.Core.List.{Memᴰ as In}
use Rattle.charts.specs.Chart.{most}

-- two numbers of pieces
abbrev pub Pair : Type 0
Pair = ℕ × ℕ

module _ {A : Type 0} where
  -- every two members, the earlier and the later, stand in a relation
  abbrev pub Pairwise : (A → A → Type 0) → List A → Type 0
  Pairwise R [] = Unit {0}
  Pairwise R (x ∷ l) = ((y : A) → In y l → R x y) × Pairwise R l

-- "two [bytes] a pair"
unfoldable pub bytes : List Pair → List ℕ
bytes [] = []
bytes (p ∷ ps) = p.0 ∷ p.1 ∷ bytes ps

-- the pairs that bytes stand for
unfoldable pub pairs_in : List ℕ → List Pair
pairs_in [] = []
pairs_in (a ∷ []) = []
pairs_in (a ∷ b ∷ l) = (a, b) ∷ pairs_in l

-- the number of a pair, where an array has a place for any two pieces, and the pair of a number
unfoldable pub cell : Pair → ℕ
cell q = q.0 * most + q.1

unfoldable pub pair_of : ℕ → Pair
pair_of c = (c / most, c % most)
