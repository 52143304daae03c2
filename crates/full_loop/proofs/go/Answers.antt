-- `full_loop::go` meets its contract: after each visit the arrays are as after one step more.
use mathlib.Core.Path.{refl}
use mathlib.Core.Logic.{inl, inr}
use native.Mathlib.Omega.{arith}
use Rattle.full_run.proofs.Running.{begins, advances, stopped}
use Rattle.full_loop.proofs.go.Goals as goal
use Rattle.full_loop.proofs.go.Goals.{else-loop-steps-test, then-loop-steps-test+then-ends-passed}

pub loop-steps-init : goal.loop-steps-init
loop-steps-init c = let a = c.args in begins a.table.now a.ends.now a.active.now a.lanes.now a.bytes.now a.budget _

pub visit-at-requires : goal.visit-at-requires
visit-at-requires c =
    (c.if-ends-passed.false, (c.requires.0, c.args.bytes.now, _, (c.loop-steps.invariant.held c.requires.0 c.requires.1).after))

pub loop-steps-preserved : goal.loop-steps-preserved
loop-steps-preserved c =
    advances c.loop-steps.invariant c.loop-steps-test.true c.if-ends-passed.false
    (omega arith) (omega arith) (omega arith) c.visit-at.ensures

pub returns : goal.returns
returns c n B =
    stopped c.loop-steps.invariant n B (elim c.loop-steps-test.branch [
      | else-loop-steps-test w ↦ inl w.loop-steps-test.false
      | then-loop-steps-test+then-ends-passed w ↦ inr w.if-ends-passed.true
    ]) refl c.last_at.ensures
