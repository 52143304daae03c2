-- The active list and the sheet that the code's arrays hold.
use Rattle.std.specs.Prelude.{List, [], ℕ, ℤ, take, drop}
use Rattle.std.proofs.Math.Option.{Option}
use Rattle.fractions.specs.declared.Point.{Point}
use Rattle.sweep.specs.Lists.{keep}
use Rattle.ported_arrays.specs.Insertion.{insert_all}
use Rattle.ported_arrays.specs.Event.{Sheet, add}
use Rattle.ported_pieces.specs.Table.{chart_in}
use Rattle.ported_active.specs.Roles.{stays_by, enters_by, before_in}
use Rattle.ported_arrays.specs.Ledger.{Ledger}

-- by the flags: who stays of the active pieces, and who enters of those at the point
abbrev pub staying : List ℕ → List ℕ → List ℕ → List ℕ
staying finishing turning active = keep (stays_by finishing turning) active

abbrev pub entering : List ℕ → List ℕ → List ℕ → List ℕ → List ℕ
entering starting finishing turning here = keep (enters_by starting finishing turning) here

-- the active list after those that stay and those that enter, in an array of so many places
abbrev pub ranged_of : List ℤ → Point → ℕ → List ℕ → List ℕ → List ℕ
ranged_of table p room stay enter = insert_all (before_in table p) [] (add room stay enter)

-- what the arrays hold, as a sheet
abbrev pub sheet : (n : ℕ) (table : List ℤ) → List ℕ → ℕ → List ℕ → ℕ → Ledger → Option Point → ℕ → Sheet (chart_in n table)
sheet n table ends passed active live book last steps =
    record { ends = drop passed ends; active = take live active; ledger = book; last = last; steps = steps }

-- the same, whatever the count of pieces, the last point and the steps so far
abbrev pub Held : List ℤ → Type 0
Held table = (n : ℕ) → Option Point → ℕ → Sheet (chart_in n table)

abbrev pub held : (table : List ℤ) → List ℕ → ℕ → List ℕ → ℕ → Ledger → Held table
held table ends passed active live book = λ n last steps. sheet n table ends passed active live book last steps
