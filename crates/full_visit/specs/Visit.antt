-- A visit of the next point, over the arrays: what they hold before it and after it.
use Rattle.std.specs.Prelude.{◌≡◌, List, ℕ, suc, ◌<◌, ◌≤◌, ℤ, length}
use Rattle.std.proofs.Math.Option.{some}
use Rattle.fractions.specs.Point.{lowest_of}
use Rattle.full_steps.specs.Steps.{run}
use Rattle.full_ends.specs.Ends.{sorted_keys}
use Rattle.full_ends.specs.Demand.{Split}
use Rattle.full_at_point.specs.Carried.{chart, Given, Carried}
use Rattle.full_visit.specs.declared.Visited.{Visited}

-- the arrays after m steps, and the ends passed
pub record After (n : ℕ) (table : List ℤ) (lent : List ℕ) (m : ℕ) (ends : List ℕ) (passed : ℕ) (active lanes : List ℕ) (live : ℕ) (bytes : List ℕ) (end : ℕ) : Type 0 where
  pub given : Given n table lent
  pub in_order : ends ≡ sorted_keys table n
  pub within : passed ≤ length ends
  pub split : Split n table (run (chart n table) m).last passed
  pub carried : Carried n table lent (run (chart n table) m) active lanes live bytes end

-- after some steps of some run, an end is left
abbrev pub Waiting : List ℤ → List ℕ → ℕ → List ℕ → List ℕ → ℕ → List ℕ → ℕ → Type 0
Waiting table ends passed active lanes live bytes end =
    (passed < length ends) × ((n : ℕ) × (lent : List ℕ) × (m : ℕ) × After n table lent m ends passed active lanes live bytes end)

-- of every such run, the arrays are then as after one step more, and the point told is the last one, in lowest terms or not
abbrev pub Visiting : List ℤ → List ℕ → ℕ → List ℕ → List ℕ → ℕ → List ℕ → ℕ → List ℕ → List ℕ → List ℕ → Visited → Type 0
Visiting table ends passed active lanes live bytes end active' lanes' bytes' r =
    (n : ℕ) (lent : List ℕ) (m : ℕ) → After n table lent m ends passed active lanes live bytes end
    → After n table lent (suc m) ends r.passed active' lanes' r.live bytes' r.end
    × ((run (chart n table) (suc m)).last ≡ some (lowest_of r.point.x r.point.y r.point.d))
