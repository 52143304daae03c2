-- A loop that passes the front of a list: those that it passed, and those that are left.
use Rattle.std.specs.Prelude.{◌≡◌, Bool, not, ◌&&◌, List, ℕ, ◌≤◌, ltb, ℤ, length, get_or, drop}
use Rattle.std.proofs.Math.Seq.{slice}
use Rattle.fractions.specs.declared.Point.{Point}
use Rattle.sweep.specs.Lists.{keep}
use Rattle.ported_arrays.specs.Numbers.{is_min, end_at, crossing_at}
use Rattle.ported_arrays.specs.Insertion.{front, rest}
use Rattle.ported_arrays.specs.Event.{flag, halves, pieces, free_all}
use Rattle.ported_pieces.specs.Table.{chart_in}

pub record Passing (f : ℕ → Bool) (l : List ℕ) (from to : ℕ) : Type 0 where
  pub onwards : from ≤ to
  pub within : to ≤ length l
  pub passed : slice from to l ≡ front f (drop from l)
  pub left : drop to l ≡ rest f (drop from l)

-- there is a member at k, and it passes
unfoldable pub stands_at : (ℕ → Bool) → List ℕ → ℕ → Bool
stands_at f l k = ltb k (length l) && f (get_or l k 0)

-- the ends at p are passed: of a min the piece is flagged as starting, of a max as finishing
pub record EndsPassed (table : List ℤ) (p : Point) (ends : List ℕ) (from : ℕ) (starting finishing starting' finishing' : List ℕ) (to : ℕ) : Type 0 where
  pub passes : (n : ℕ) → Passing (end_at (chart_in n table) p) ends from to
  pub starts : starting' ≡ flag (halves (keep is_min (slice from to ends))) starting
  pub finishes : finishing' ≡ flag (halves (keep (λ f. not (is_min f)) (slice from to ends))) finishing

-- the pairs that cross at p are passed: both pieces of each are flagged as turning, and its waiting mark drops
pub record CrossingsPassed (table : List ℤ) (p : Point) (waiting : List ℕ) (from : ℕ) (turning marks turning' marks' : List ℕ) (to : ℕ) : Type 0 where
  pub passes : (n : ℕ) → Passing (crossing_at (chart_in n table) p) waiting from to
  pub turns : turning' ≡ flag (pieces (slice from to waiting)) turning
  pub frees : marks' ≡ free_all (slice from to waiting) marks
