-- What is promised of the sweep in the new mode: all that crate promises says of a sweep, with nothing missing on any chart;
-- and that it says what the ported sweep does where no piece is upright, and where a list is refused.
use Rattle.std.specs.Prelude.{◌≡◌, List, ℕ, ℤ, length}
use Rattle.charts.specs.Verdict.{Refused}
use Rattle.charts.specs.Demand.{ListingDue}
use Rattle.bentley_ottmann.specs.declared.Swept.{Swept}
use Rattle.full_sweep.specs.Swept.{sweep_of, lent_after}
use Rattle.promises.specs.Chart.{Accepts, NoneUpright}
use Rattle.promises.specs.Sweep.{Outcome, Ported, SweepPromises}

-- what the contract of the new mode's `sweep` allows
pub record Full (list : List ℤ) (budget : ℕ) (lent : List ℕ) (r : Swept) (after : List ℕ) : Type 0 where
  pub returned : r ≡ sweep_of list budget (length lent)
  pub left : after ≡ lent_after list budget lent

-- on every chart nothing may be missing, with upright pieces or without; and so "complete" is always yes
abbrev pub EveryChart : List ℤ → ℕ → Type 0
EveryChart list n = Unit {0}

-- an answer without the pairs examined, which the new mode does not count
abbrev pub uncounted : Swept → Swept
uncounted s =
    record {
      number = s.number;
      place = s.place;
      pairs = s.pairs;
      steps = s.steps;
      ended = s.ended;
      complete = s.complete;
      last = s.last;
      examined = 0;
    }

-- "on a chart without upright pieces both modes give the same answer, at every budget, but for the pairs examined", and leave
-- the same bytes
module _ (Allowed : Outcome) where
  abbrev pub SameAsPorted : (List ℤ → List ℕ → Type 0) → Type 0
  SameAsPorted On =
      (list : List ℤ) (budget : ℕ) (lent : List ℕ) (r s : Swept) (after beyond : List ℕ) → On list lent
      → Allowed list budget lent r after → Ported list budget lent s beyond → (r ≡ uncounted s) × (after ≡ beyond)

  abbrev pub SameWithoutUprights : Type 0
  SameWithoutUprights = SameAsPorted (λ list lent. (n : ℕ) × Accepts list lent n × NoneUpright list n)

  -- the same refusals, and none new
  abbrev pub SameRefusals : Type 0
  SameRefusals = SameAsPorted (λ list lent. (k : ℕ) × (p : ℕ) × ListingDue list (length lent) (Refused k p))

  pub record FullPromises : Type 0 where
    pub sweep : SweepPromises Allowed EveryChart
    pub same_without_uprights : SameWithoutUprights
    pub same_refusals : SameRefusals
