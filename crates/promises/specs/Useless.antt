-- The scope's four useless programs, each as the outcomes that it has, and which promise shuts it out.
use Rattle.std.specs.Prelude.{◌≡◌, cond, ℕ, min, eqb, length}
use Rattle.charts.specs.Answer.{answer_of, listing_of}
use Rattle.bentley_ottmann.specs.declared.Swept.{Swept}
use Rattle.bentley_ottmann.specs.Swept.{refused_with}
use Rattle.promises.specs.Chart.{NoneUpright}
use Rattle.promises.specs.AllPairs as pairs
use Rattle.promises.specs.Sweep.{Outcome, Ported, Refusals, CountsSteps, VisitsInOrder}

-- "one that refuses all"
abbrev pub RefusesAll : Outcome
RefusesAll list budget lent r after = (r ≡ refused_with 8 0) × (after ≡ lent)

-- "one with a fixed or empty list": it refuses what it should, and lists nothing
abbrev pub ListsNothing : pairs.Outcome
ListsNothing list lent r after = (r ≡ answer_of (λ n. 0) (listing_of list (length lent))) × (after ≡ lent)

-- "one that sweeps truly at step one and idles afterwards"
abbrev pub IdlesAfterOne : Outcome
IdlesAfterOne list budget lent r after = Ported list (min budget 1) lent r after

-- "one that invents its step count": a true sweep that tells its budget for its steps
abbrev pub inventing : ℕ → Swept → Swept
inventing budget s =
    record {
      number = s.number;
      place = s.place;
      pairs = s.pairs;
      steps = cond (eqb s.number 0) budget 0;
      ended = s.ended;
      complete = s.complete;
      last = s.last;
      examined = s.examined;
    }

abbrev pub InventsSteps : Outcome
InventsSteps list budget lent r after = (s : Swept) × Ported list budget lent s after × (r ≡ inventing budget s)

pub record ShutOut : Type 0 where
  -- by the "exactly when" of demand 1
  pub refuses_all : ¬ Refusals RefusesAll
  -- by demand 2
  pub lists_nothing : ¬ pairs.ListsExactly ListsNothing
  -- by "demand 3 at every budget"
  pub idles_after_one : ¬ CountsSteps IdlesAfterOne
  -- by "the visited points of demand 3"
  pub invents_steps : ¬ VisitsInOrder InventsSteps NoneUpright
