-- `full_outer::examine_outer` meets its contract: a lane is examined where the branch is taken.
use mathlib.Core.Path.{◌≡◌, ap, ◌∙◌}
use Rattle.full_step.specs.Whole.{lower_examined, upper_examined}
use Rattle.full_step.proofs.Outer.{lower_yes, lower_no, upper_yes, upper_no}
use Rattle.full_outer.proofs.examine_outer.Goals as goal
use Rattle.full_outer.proofs.examine_outer.Goals.{then-lo-gt0, else-lo-gt0}

pub returns-then-m-gt0 : goal.returns-then-m-gt0
returns-then-m-gt0 c =
    let a = c.args in
    let low : c.if-lo-gt0.lanes ≡ lower_examined a.table.now a.active.now a.live a.lo a.m a.p a.lanes.now =
    elim c.if-lo-gt0.branch [
      | then-lo-gt0 w ↦ w.lanes-is ∙ w.examine.ensures ∙ lower_yes a.table.now a.active.now a.live a.lo a.m a.p a.lanes.now w.if-lo-gt0.true
      | else-lo-gt0 w ↦ w.lanes-is ∙ lower_no a.table.now a.active.now a.live a.lo a.m a.p a.lanes.now w.if-lo-gt0.false
    ] in
    c.examine-then-m-gt0.ensures
    ∙ upper_yes a.table.now a.active.now a.live a.lo a.m a.p c.if-lo-gt0.lanes c.if-m-gt0.true
    ∙ ap (upper_examined a.table.now a.active.now a.live a.lo a.m a.p) low

pub returns-else-m-gt0 : goal.returns-else-m-gt0
returns-else-m-gt0 c =
    let a = c.args in
    let low : c.if-lo-gt0.lanes ≡ lower_examined a.table.now a.active.now a.live a.lo a.m a.p a.lanes.now =
    elim c.if-lo-gt0.branch [
      | then-lo-gt0 w ↦ w.lanes-is ∙ w.examine.ensures ∙ lower_yes a.table.now a.active.now a.live a.lo a.m a.p a.lanes.now w.if-lo-gt0.true
      | else-lo-gt0 w ↦ w.lanes-is ∙ lower_no a.table.now a.active.now a.live a.lo a.m a.p a.lanes.now w.if-lo-gt0.false
    ] in
    upper_no a.table.now a.active.now a.live a.lo a.m a.p c.if-lo-gt0.lanes c.if-m-gt0.false
    ∙ ap (upper_examined a.table.now a.active.now a.live a.lo a.m a.p) low
