-- What stands at a place of a file: a number and the place after it, or the number of its refusal; and what of that a result
-- says.
use Rattle.std.specs.Prelude.{ℕ, ℤ, Result, Ok, Err}
use Rattle.charts.specs.Refusal.{number}
use Rattle.charts.specs.declared.Reason.{Reason}
use Rattle.chart_file.specs.declared.Found.{Found}

-- in groups
pub data Groups : Type 0 where
  Value : ℕ → ℕ → Groups
  Fault : ℕ → Groups

-- as a number of the list
pub data Number : Type 0 where
  Read : ℤ → ℕ → Number
  Refused : ℕ → Number

abbrev pub groups_told : Result (Found ℕ) Reason → Groups
groups_told (Ok found) = Value found.value found.next
groups_told (Err reason) = Fault (number reason)

abbrev pub number_told : Result (Found ℤ) Reason → Number
number_told (Ok found) = Read found.value found.next
number_told (Err reason) = Refused (number reason)
