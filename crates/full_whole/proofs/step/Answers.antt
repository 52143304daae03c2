-- `full_whole::step` meets its contract: both halves, then the outer lanes of the block that is there now.
use Prim.Native.Nat.{◌+◌, ◌-◌, ◌≤◌}
use native.Mathlib.Omega.{arith}
use lib.ListN.{length}
use Rattle.full_step.proofs.Turning.{turned_fits, turned_proper, stepped}
use Rattle.full_whole.proofs.step.Goals as goal

pub overflow_add-count : goal.overflow_add-count
overflow_add-count c =
    let a = c.args in
    let P = c.requires in
    -- the pieces that are active now have places
    let fits : a.lo + c.turn-m.result + (a.live - a.hi) ≤ length a.active.now =
    turned_fits a.table.now a.active.now a.lanes.now a.live a.lo a.hi a.ends.now P.bounds P.turnable
    _ _ _ _ (c.turn-m.ensures P.roomy.point P.roomy.marks) c.turn-m.auto.active c.turn-m.auto.lanes in
    omega (arith, c.well_formed)

pub overflow_add-count-2 : goal.overflow_add-count-2
overflow_add-count-2 c =
    let a = c.args in
    let P = c.requires in
    let fits : a.lo + c.turn-m.result + (a.live - a.hi) ≤ length a.active.now =
    turned_fits a.table.now a.active.now a.lanes.now a.live a.lo a.hi a.ends.now P.bounds P.turnable
    _ _ _ _ (c.turn-m.ensures P.roomy.point P.roomy.marks) c.turn-m.auto.active c.turn-m.auto.lanes in
    omega (arith, c.well_formed)

pub examine_outer-requires : goal.examine_outer-requires
examine_outer-requires c =
    let a = c.args in
    let P = c.requires in
    let fits : a.lo + c.turn-m.result + (a.live - a.hi) ≤ length a.active.now =
    turned_fits a.table.now a.active.now a.lanes.now a.live a.lo a.hi a.ends.now P.bounds P.turnable
    _ _ _ _ (c.turn-m.ensures P.roomy.point P.roomy.marks) c.turn-m.auto.active c.turn-m.auto.lanes in (
      omega arith,
      omega (arith, c.turn-m.auto.active),
      omega (arith, c.turn-m.auto.lanes, P.turnable.alike),
      turned_proper a.table.now a.active.now a.lanes.now a.live a.lo a.hi a.ends.now P.bounds P.turnable
          _ _ _ _ (c.turn-m.ensures P.roomy.point P.roomy.marks) c.turn-m.auto.active c.turn-m.auto.lanes P.proper,
    )

pub returns : goal.returns
returns c =
    λ q w.
    let a = c.args in
    let P = c.requires in
    stepped a.table.now a.active.now a.lanes.now a.live a.lo a.hi a.ends.now P.bounds P.turnable
    _ _ _ _ (c.turn-m.ensures q w) c.turn-m.auto.active c.turn-m.auto.lanes
    q a.p a.bytes.now a.end _ _ _ (c.report-to.ensures q w) c.examine_outer.ensures
