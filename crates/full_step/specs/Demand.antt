-- What is promised of a step of the new mode. The statement is a type, inhabited in proofs/Carrying.antt.
use Rattle.std.specs.Prelude.{◌≡◌, List, ℕ, ◌+◌, ◌≤◌, ℤ, length}
use Rattle.std.proofs.Math.Option.{some}
use Rattle.fractions.specs.declared.Point.{Point}
use Rattle.ported_pieces.specs.Table.{piece_in}
use Rattle.full_steps.specs.Steps.{State, start, next, step, run}
use Rattle.full_steps.specs.InPlace.{below, block}
use Rattle.full_order.specs.Finer.{sides_of}
use Rattle.full_points.specs.declared.Spot.{Spot}
use Rattle.full_step.specs.declared.At.{At}
use Rattle.full_step.specs.Halves.{new_block}
use Rattle.full_step.specs.Whole.{Steppable, Stepped}
use Rattle.full_step.specs.Carried.{chart, Given, Carried, Starting, StandsAt}

module _ (n : ℕ) (table : List ℤ) where
  -- of the active pieces those below p stand up to lo, and those through it from there up to hi
  pub record BlockAt (active : List ℕ) (p : Point) (lo hi : ℕ) : Type 0 where
    pub first : lo ≡ length (below (chart n table) (sides_of n (piece_in table)) active p)
    pub last : hi ≡ length (below (chart n table) (sides_of n (piece_in table)) active p) + length (block (chart n table) (sides_of n (piece_in table)) active p)

  -- arrays that hold the state s are fit for the step at p, and after it they hold the next state
  pub record CarriesOn (lent : List ℕ) (s : State (chart n table)) (p rough : Point) (spot : Spot) (active lanes : List ℕ) (live lo hi : ℕ) (ends bytes : List ℕ) (end : ℕ) : Type 0 where
    pub steppable : Steppable table spot active lanes live lo hi ends bytes end
    pub there : steppable.roomy.point ≡ p
    pub carried : (active' lanes' bytes' : List ℕ) (r : At) → length active' ≡ length active → length lanes' ≡ length lanes
        → Stepped table p rough active lanes live lo hi ends bytes end active' lanes' bytes' r (new_block table p lo hi active ends)
        → Carried n table lent (step (chart n table) s p) active' lanes' r.live bytes' r.end

-- at every step of a run
abbrev pub StepCarries : Type 0
StepCarries =
    (n : ℕ) (table : List ℤ) (lent : List ℕ) → Given n table lent → (budget : ℕ) (p : Point) → next (chart n table) (run (chart n table) budget) ≡ some p
    → (active lanes : List ℕ) (live : ℕ) (bytes : List ℕ) (end : ℕ) → Carried n table lent (run (chart n table) budget) active lanes live bytes end
    → (ends : List ℕ) → Starting n table p ends → (rough : Point) (spot : Spot) → StandsAt p rough spot
    → (lo hi : ℕ) → BlockAt n table (run (chart n table) budget).active p lo hi
    → CarriesOn n table lent (run (chart n table) budget) p rough spot active lanes live lo hi ends bytes end

-- before the first step, with no active piece and nothing listed
abbrev pub StartCarried : Type 0
StartCarried =
    (n : ℕ) (table : List ℤ) (active lanes lent : List ℕ) → n ≤ length active → length lanes ≡ length active
    → Carried n table lent (start (chart n table)) active lanes 0 lent 0
