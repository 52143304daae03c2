-- `full_end_alone::leave` meets its contract: the piece taken out, then the lane of the pair that closes up.
use mathlib.Core.List.{[]}
use Prim.Native.Nat.{◌+◌}
use native.Mathlib.Omega.{arith}
use Rattle.full_end_alone.proofs.Settling.{proper_now, settled}
use Rattle.full_end_alone.proofs.leave.Goals as goal

pub take_out-requires : goal.take_out-requires
take_out-requires c =
    let M = c.requires.movable in
    record { inside = M.inside; within = M.within; fits = omega (arith, M.fits); alike = M.alike }

pub examine_outer-requires : goal.examine_outer-requires
examine_outer-requires c =
    let a = c.args in
    let M = c.requires.movable in
    let long = c.take_out.auto in (
      omega (arith, M.inside),
      omega (arith, M.within, long.active),
      omega (arith, M.within, M.alike, long.lanes),
      proper_now a.table.now a.p a.active.now a.lanes.now a.live a.lo (a.lo + 1) [] _ _ _ c.take_out.ensures c.requires (omega (arith, M.within, long.active)),
    )

pub returns : goal.returns
returns c =
    let a = c.args in
    settled a.table.now a.p a.active.now a.lanes.now a.live a.lo (a.lo + 1) [] _ _ _ c.take_out.ensures _ c.examine_outer.ensures
