-- A chart as the sweep sees it: numbered pieces, an order of points, the segment test, and an order of pieces at a point.
-- All of it is computed; what has to hold of it stands in Geometry.
use Rattle.std.specs.Prelude.{Bool, true, false, ◌&&◌, not, ℕ}
use Rattle.sweep.specs.Lists.{Pair}

-- the answers of the segment test
pub data Kind : Type 0 where
  nothing crosses overlaps : Kind

pub record Chart : Type 1 where
  pub Point : Type 0
  -- "Points are ordered by x, then y."
  pub less : Point → Point → Bool
  -- how many pieces there are, "numbered from 0"
  pub n : ℕ
  -- "The lesser end is the piece's min, the other its max"
  pub min : ℕ → Point
  pub max : ℕ → Point
  -- "A piece is upright when both x are equal."
  pub upright : ℕ → Bool
  -- the point belongs to the piece: an end that is not included does not
  pub contains : ℕ → Point → Bool
  -- the test, the first piece asking
  pub test : ℕ → ℕ → Kind
  -- where two pieces that cross do so
  pub crossing : ℕ → ℕ → Point
  -- the order of the active list at a point
  pub before : Point → ℕ → ℕ → Bool

unfoldable pub meets : Kind → Bool
meets nothing = false
meets crosses = true
meets overlaps = true

module _ (C : Chart) where
  open C use {Point, less, test, crossing}

  unfoldable pub same : Point → Point → Bool
  same p q = not (less p q) && not (less q p)

  -- the test on a pair, its first number asking
  abbrev pub kind : Pair → Kind
  kind q = test q.0 q.1

  abbrev pub at : Pair → Point
  at q = crossing q.0 q.1
