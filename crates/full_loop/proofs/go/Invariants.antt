use Prim.Native.Nat.{◌-◌}
use Rattle.full_run.proofs.Running.{Going}
use Rattle.full_loop.proofs.go.Given as goal

abbrev pub invariant-loop-steps : goal.invariant-loop-steps
invariant-loop-steps l = Going l.table l.ends l.initial.active l.initial.lanes l.initial.bytes l.budget l.active l.lanes l.bytes l.passed l.live l.end l.steps l.last

abbrev pub decreases-loop-steps : goal.decreases-loop-steps
decreases-loop-steps l = l.budget - l.steps
