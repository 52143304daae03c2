-- The single call that a batch makes of each chart: a sweep in the new mode, with the largest budget.
use Rattle.std.specs.Prelude.{List, ℕ, ℤ, length}
use Rattle.bentley_ottmann.specs.declared.Swept.{Swept}
use Rattle.full_sweep.specs.Swept.{sweep_of, lent_after}

-- "the largest budget"
abbrev pub largest : ℕ
largest = 4294967295

-- what it returns of a list with these bytes lent
unfoldable pub swept_alone : List ℤ → List ℕ → Swept
swept_alone list lent = sweep_of list largest (length lent)

-- what it leaves in them
unfoldable pub left_alone : List ℤ → List ℕ → List ℕ
left_alone list lent = lent_after list largest lent
