-- What the arrays tell of the next point of a run: which it is, which pieces start there, and which ends are behind it.
use Rattle.std.specs.Prelude.{◌≡◌, List, [], ℕ, ◌*◌, ◌-◌, ◌<◌, ◌≤◌, ℤ, take, drop, get_or}
use Rattle.std.proofs.Math.Option.{none, some}
use Rattle.fractions.specs.declared.Point.{Point}
use Rattle.charts.specs.Chart.{most}
use Rattle.sweep.specs.Chart.{Chart, at}
use Rattle.sweep_geometry.specs.Demand.{AllProper}
use Rattle.full_steps.specs.Steps.{next, run}
use Rattle.full_order.specs.Finer.{finer}
use Rattle.ported_pieces.specs.Table.{piece_in}
use Rattle.full_ends.specs.Ends.{sorted_keys, Passed}
use Rattle.full_ends.specs.Demand.{standing, Split}
use Rattle.full_lanes.specs.Lanes.{pair_at}
use Rattle.full_lanes.specs.Demand.{Beside}
use Rattle.full_next.specs.Next.{Next}
use Rattle.full_step.specs.Carried.{Starting}

module _ (n : ℕ) (table : List ℤ) where
  abbrev C : Chart
  C = finer n (piece_in table)

  -- p comes after m steps; these are the keys of its ends, and `passed` of all the keys are not beyond it
  pub record Comes (m : ℕ) (p : Point) (keys : List ℕ) (passed : ℕ) : Type 0 where
    pub next_is : next C (run C m) ≡ some p
    pub starting : Starting n table p keys
    pub split : Split n table (some p) passed

  -- the active pieces after m steps, and the keys of their lanes
  pub record Known (m : ℕ) (active lanes : List ℕ) (live : ℕ) : Type 0 where
    pub few : n ≤ most
    pub proper : AllProper n (piece_in table)
    pub holds : take live active ≡ (run C m).active
    pub beside : Beside n table (run C m).last active lanes live

-- so the choice of the next point is right: a lane's crossing, at which no end stands,
abbrev pub LaneComes : Type 0
LaneComes =
    (n : ℕ) (table : List ℤ) (m : ℕ) (active lanes : List ℕ) (live passed r : ℕ) → Known n table m active lanes live
    → Split n table (run (finer n (piece_in table)) m).last passed → passed < 2 * n
    → Next table active lanes live (get_or (sorted_keys table n) passed 0) r → r < live
    → Comes n table m (at (finer n (piece_in table)) (pair_at active r)) [] passed

-- or the next end, with those that stand there too,
abbrev pub EndComes : Type 0
EndComes =
    (n : ℕ) (table : List ℤ) (m : ℕ) (active lanes : List ℕ) (live passed to : ℕ) → Known n table m active lanes live
    → Split n table (run (finer n (piece_in table)) m).last passed → Next table active lanes live (get_or (sorted_keys table n) passed 0) live → Passed (sorted_keys table n) passed to
    → Comes n table m (standing (get_or (sorted_keys table n) passed 0)) (take (to - passed) (drop passed (sorted_keys table n))) to

-- or none, where all ends are passed
abbrev pub NoneComes : Type 0
NoneComes =
    (n : ℕ) (table : List ℤ) (m : ℕ) (active lanes : List ℕ) (live : ℕ) → Known n table m active lanes live
    → Split n table (run (finer n (piece_in table)) m).last (2 * n) → next (finer n (piece_in table)) (run (finer n (piece_in table)) m) ≡ none
