-- One mark for each pair: what the marks say while the entries are walked, and after.
use Rattle.std.specs.Prelude.{◌≡◌, Bool, false, not, ◌&&◌, List, ℕ, ◌*◌, ◌/◌, ◌<◌, length, get_or, Option, None}
use Rattle.charts.specs.Chart.{most}
use Rattle.charts.specs.PairList.{cell}
use Rattle.supplied.specs.Entries.{Faulty, named, faults, first_of}

-- the mark of a pair
abbrev pub mark_of : List Bool → ℕ → ℕ → Bool
mark_of marks a b = get_or marks (cell (a, b)) false

-- the marked pairs are those that the first i entries name
pub record Marked (marks : List Bool) (bytes : List ℕ) (i : ℕ) : Type 0 where
  pub size : length marks ≡ most * most
  pub says : (a b : ℕ) → b < a → a < most → mark_of marks a b ≡ named bytes i a b

-- a pair that meets and is not marked
unfoldable pub unmarked : List Bool → (ℕ → ℕ → Bool) → ℕ → ℕ → Bool
unmarked marks test a b = not (mark_of marks a b) && test a b

-- after the walk: the first fault, and where there is none the marks of all entries
pub record Walked (test : ℕ → ℕ → Bool) (n : ℕ) (bytes : List ℕ) (marks : List Bool) (r : Option Faulty) : Type 0 where
  pub first : r ≡ first_of (faults bytes test n (length bytes / 2))
  pub marked : r ≡ None → Marked marks bytes (length bytes / 2)
