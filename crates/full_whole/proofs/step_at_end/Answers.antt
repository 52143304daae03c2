-- `full_whole::step_at_end` meets its contract: what is told of the ends makes a piece that comes in or goes out the step.
use native.Mathlib.Omega.{arith}
use Rattle.full_end_alone.proofs.Stepping.{coming_fits, coming_settles, going_settles, coming_steps, going_steps}
use Rattle.full_whole.proofs.step_at_end.Goals as goal

pub bounds-ends-0 : goal.bounds-ends-0
bounds-ends-0 c =
    omega (arith, (c.in-Enters.ensures _ c.requires.roomy.marks).one_end)

pub overflow_cast-i : goal.overflow_cast-i
overflow_cast-i c =
    let s = c.args in
    let P = c.requires in
    omega (
      arith,
      (coming_fits s.table.now s.lo s.hi s.active.now s.lanes.now s.live s.ends.now s.spot s.bytes.now s.end P (c.in-Enters.ensures _ P.roomy.marks)).0,
    )

pub enter-count-requires : goal.enter-count-requires
enter-count-requires c =
    let s = c.args in
    let P = c.requires in
    coming_settles s.table.now s.lo s.hi s.active.now s.lanes.now s.live s.ends.now s.spot s.bytes.now s.end P (c.in-Enters.ensures _ P.roomy.marks)

pub leave-count-requires : goal.leave-count-requires
leave-count-requires c =
    let s = c.args in
    let P = c.requires in
    going_settles s.table.now s.lo s.hi s.active.now s.lanes.now s.live s.ends.now s.spot s.bytes.now s.end P (c.in-Leaves.ensures _ P.roomy.marks)

pub returns-in-Enters : goal.returns-in-Enters
returns-in-Enters c q m =
    let s = c.args in
    let P = c.requires in
    coming_steps s.table.now s.lo s.hi s.active.now s.lanes.now s.live s.ends.now s.spot s.bytes.now s.end P
    _ _ _ c.enter-count.auto.active q s.p (c.in-Enters.ensures _ P.roomy.marks) (c.in-Enters.ensures q m) c.enter-count.ensures

pub returns-in-Leaves : goal.returns-in-Leaves
returns-in-Leaves c q m =
    let s = c.args in
    going_steps s.table.now s.lo s.hi s.active.now s.lanes.now s.live s.ends.now s.spot s.bytes.now s.end c.requires
    _ _ _ c.leave-count.auto.active q s.p (c.in-Leaves.ensures q m) c.leave-count.ensures
