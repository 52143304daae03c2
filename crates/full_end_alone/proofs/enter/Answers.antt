-- `full_end_alone::enter` meets its contract: the piece put in, then the lanes beside it.
use mathlib.Core.List.{[], ◌∷◌}
use native.Mathlib.Omega.{arith}
use Rattle.full_end_alone.proofs.Settling.{proper_now, settled}
use Rattle.full_end_alone.proofs.enter.Goals as goal

pub examine_outer-requires : goal.examine_outer-requires
examine_outer-requires c =
    let a = c.args in
    let M = c.requires.movable in
    let long = c.put_in.auto in (
      omega (arith, M.inside),
      omega (arith, M.inside, M.fits, long.active),
      omega (arith, M.inside, M.fits, M.alike, long.lanes),
      proper_now a.table.now a.p a.active.now a.lanes.now a.live a.lo a.lo (a.i ∷ []) _ _ _ c.put_in.ensures c.requires (omega (arith, M.inside, M.fits, long.active)),
    )

pub returns : goal.returns
returns c =
    let a = c.args in
    settled a.table.now a.p a.active.now a.lanes.now a.live a.lo a.lo (a.i ∷ []) _ _ _ c.put_in.ensures _ c.examine_outer.ensures
