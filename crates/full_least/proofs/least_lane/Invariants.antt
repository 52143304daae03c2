use Prim.Native.Nat.{◌-◌}
use Rattle.full_lanes.proofs.Least.{Scan}
use Rattle.full_least.proofs.least_lane.Given as goal

abbrev pub invariant-loop-k : goal.invariant-loop-k
invariant-loop-k l = Scan l.table l.active l.lanes l.live l.k l.at l.least

abbrev pub decreases-loop-k : goal.decreases-loop-k
decreases-loop-k l = l.live - l.k
