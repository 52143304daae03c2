use Prim.Native.Nat.{◌-◌, ◌≤◌}
use Rattle.fractions.specs.declared.Point.{Point}
use Rattle.full_points.specs.Spot.{Marks}
use Rattle.full_active.specs.Parts.{below_in}
use Rattle.full_active.proofs.Places.{Between}
use Rattle.full_block.proofs.search.Given as goal

abbrev pub invariant-loop-lo : goal.invariant-loop-lo
invariant-loop-lo l = (l.lo ≤ l.hi) × (l.hi ≤ l.live) × ((q : Point) → Marks l.p q → Between (below_in l.table q) l.active l.live l.lo l.hi)

abbrev pub decreases-loop-lo : goal.decreases-loop-lo
decreases-loop-lo l = l.hi - l.lo
