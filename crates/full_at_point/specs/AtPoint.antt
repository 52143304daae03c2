-- A step at a point that is known, over the arrays: what they hold before it and after it.
use Rattle.std.specs.Prelude.{◌≡◌, true, List, ℕ, suc, ◌+◌, ◌<◌, ℤ, get_or}
use Rattle.std.proofs.Math.Option.{some}
use Rattle.fractions.specs.declared.Point.{Point}
use Rattle.line_segment.specs.declared.Meeting.TheVariants.{Crossing}
use Rattle.line_segment.specs.Segment.{intersect_of, crossing_of}
use Rattle.ported_pieces.specs.Table.{piece_in}
use Rattle.full_steps.specs.Steps.{next, run}
use Rattle.full_points.specs.Spot.{ChartPoint}
use Rattle.full_lanes.specs.Lanes.{pair_at, meeting_at, steeper}
use Rattle.full_active.specs.Ranks.{goes_on_in}
use Rattle.full_step.specs.declared.At.{At}
use Rattle.full_step.specs.Carried.{chart, Given, Carried, Starting}

-- p comes after m steps, these are the keys of its ends, and the arrays hold the state
pub record Awaits (n : ℕ) (table : List ℤ) (lent : List ℕ) (m : ℕ) (p : Point) (keys active lanes : List ℕ) (live : ℕ) (bytes : List ℕ) (end : ℕ) : Type 0 where
  pub given : Given n table lent
  pub carried : Carried n table lent (run (chart n table) m) active lanes live bytes end
  pub next_is : next (chart n table) (run (chart n table) m) ≡ some p
  pub starting : Starting n table p keys

-- of some run
abbrev pub Ready : List ℤ → Point → List ℕ → List ℕ → List ℕ → ℕ → List ℕ → ℕ → Type 0
Ready table p keys active lanes live bytes end = (n : ℕ) × (lent : List ℕ) × (m : ℕ) × Awaits n table lent m p keys active lanes live bytes end

-- of every such run, the arrays then hold the state after one step more
abbrev pub Stepping : List ℤ → Point → List ℕ → List ℕ → List ℕ → ℕ → List ℕ → ℕ → List ℕ → List ℕ → List ℕ → At → Type 0
Stepping table p keys active lanes live bytes end active' lanes' bytes' r =
    (n : ℕ) (lent : List ℕ) (m : ℕ) → Awaits n table lent m p keys active lanes live bytes end
    → Carried n table lent (run (chart n table) (suc m)) active' lanes' r.live bytes' r.end

abbrev pub crossing_at : List ℤ → List ℕ → ℕ → Point
crossing_at table active k = crossing_of (piece_in table (pair_at active k).0) (piece_in table (pair_at active k).1)

-- the pieces at places k and k + 1 cross, at a point of a chart beyond which both go on; the one in front is the steeper
pub record CrossAt (table : List ℤ) (active : List ℕ) (live k : ℕ) : Type 0 where
  pub two : k + 1 < live
  pub crosses : intersect_of (piece_in table (pair_at active k).0) (piece_in table (pair_at active k).1) ≡ Crossing
  pub charted : ChartPoint (meeting_at table active k)
  pub first_on : goes_on_in table (crossing_at table active k) (get_or active k 0) ≡ true
  pub second_on : goes_on_in table (crossing_at table active k) (get_or active (k + 1) 0) ≡ true
  pub falls : steeper table (get_or active k 0) (get_or active (k + 1) 0) ≡ true
