-- The list of pairs in the Rust's order, for any test of two numbers, and its bytes over lent ones.
use Rattle.std.specs.Prelude.{Bool, cond, List, [], ◌∷◌, ◌++◌, ℕ, zero, suc, length, drop}
pub use Rattle.charts.specs.PairList.{Pair}
unfoldable pub use Rattle.charts.specs.PairList.{bytes}

-- "For a from 0, for b below a: the pair (a, b), greater number first."
module _ (meets : ℕ → ℕ → Bool) where
  -- (a, 0), (a, 1), .. (a, b - 1), those that meet
  unfoldable pub row : ℕ → ℕ → List Pair
  row a zero = []
  row a (suc b) = row a b ++ cond (meets a b) ((a, b) ∷ []) []

  -- the rows of 0, 1, .. n - 1
  unfoldable pub rows : ℕ → List Pair
  rows zero = []
  rows (suc a) = rows a ++ row a a

-- "bytes past the last pair keep their values": xs over the front of lent bytes
unfoldable pub over : List ℕ → List ℕ → List ℕ
over xs lent = xs ++ drop (length xs) lent
