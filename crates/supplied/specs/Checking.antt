-- What is said of a supplier's list: the refusals, the first entry at fault, the first missing pair, or that it is accepted.
use Rattle.std.specs.Prelude.{Bool, cond, not, List, ℕ, ◌/◌, ◌%◌, eqb, ℤ, length, Option, None, Some}
use Rattle.charts.specs.Chart.{verdict_of}
use Rattle.charts.specs.Verdict.{Verdict}
use Rattle.charts.specs.Verdict.{Accepted as Going, Refused as Stopped}
use Rattle.naive.specs.AllPairs.{meets}
use Rattle.naive.specs.Pairs.{Pair}
use Rattle.supplied.specs.declared.Checked.{Checked}
use Rattle.supplied.specs.declared.Checked.TheVariants.{Accepted, Fault, Missing, Refused}
use Rattle.supplied.specs.Entries.{Faulty, number_of, faults, missing, first_of}

-- "name the first entry at fault, .. or, when all entries are good, the first missing pair"
abbrev pub told : Option Faulty → Option Pair → Checked
told (Some (i, fault)) m = Fault i (number_of fault)
told None (Some (a, b)) = Missing a b
told None None = Accepted

unfoldable pub held_to : (ℕ → ℕ → Bool) → ℕ → List ℕ → Checked
held_to test n bytes = told (first_of (faults bytes test n (length bytes / 2))) (first_of (missing bytes test n))

-- "list faults as before; then 16 for an odd number of bytes"
abbrev pub then_even : ℕ → Verdict → Verdict
then_even bytes (Going n) = cond (not (eqb (bytes % 2) 0)) (Stopped 16 0) (Going n)
then_even bytes (Stopped number place) = Stopped number place

unfoldable pub supplied_of : List ℤ → ℕ → Verdict
supplied_of list bytes = then_even bytes (verdict_of list)

abbrev pub checked_by : List ℤ → List ℕ → Verdict → Checked
checked_by list bytes (Going n) = held_to (meets list) n bytes
checked_by list bytes (Stopped number place) = Refused number place

unfoldable pub checked_of : List ℤ → List ℕ → Checked
checked_of list bytes = checked_by list bytes (supplied_of list (length bytes))
