-- What the arrays hold when a run of the new mode begins, and what is told where it stops.
use Rattle.std.specs.Prelude.{◌≡◌, cond, List, ℕ, eqb, ℤ, length, Option, None, Some}
use Rattle.std.proofs.lemmas.List.Edits.{sets}
use Rattle.fractions.specs.Point.{lowest_of}
use Rattle.fractions.specs.declared.Point.{Point}
use Rattle.charts.specs.Chart.{most}
use Rattle.ported_arrays.specs.Agreement.{flat}
use Rattle.full_steps.specs.Steps.{answer}
use Rattle.full_ends.specs.Ends.{sorted_keys}
use Rattle.full_visit.specs.Carried.{chart, Given}
use Rattle.ported_run.specs.Last.{as_last}
use Rattle.full_run.specs.declared.Stop.{Stop}

-- the last point in lowest terms, or none after zero steps
abbrev pub last_at : ℕ → Point → Option Point
last_at steps p = cond (eqb steps 0) None (Some (lowest_of p.x p.y p.d))

pub record Begun (n : ℕ) (table : List ℤ) (ends active lanes bytes : List ℕ) : Type 0 where
  pub given : Given n table bytes
  pub in_order : ends ≡ sorted_keys table n
  pub actives : length active ≡ most
  pub beside : length lanes ≡ most

-- a run with this budget stops so, and leaves these bytes where `lent` stood
pub record Stopped (n : ℕ) (table : List ℤ) (budget : ℕ) (lent : List ℕ) (stop : Stop) (bytes : List ℕ) : Type 0 where
  pub end_is : stop.end ≡ length (flat (answer (chart n table) budget).listed)
  pub steps_are : stop.steps ≡ (answer (chart n table) budget).steps
  pub ended_is : stop.ended ≡ (answer (chart n table) budget).ended
  pub last_is : stop.last ≡ as_last (answer (chart n table) budget).last
  pub bytes_are : bytes ≡ sets lent 0 (flat (answer (chart n table) budget).listed)
