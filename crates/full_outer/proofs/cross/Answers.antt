-- `full_outer::cross` meets its contract: the pair listed, the two exchanged, then the lanes beside them.
use mathlib.Core.Path.{refl, ap, ◌∙◌}
use native.Mathlib.Omega.{arith}
use lib.ListN.{take}
use Rattle.full_lanes.specs.Lanes.{pair_at}
use Rattle.full_step.specs.Whole.{outer_examined}
use Rattle.full_step.specs.Crossed.{turned_two}
use Rattle.full_step.proofs.Outer.{outer_take}
use Rattle.full_step.proofs.Turning.{proper_places}
use Rattle.full_outer.proofs.cross.Goals as goal

pub examine_outer-requires : goal.examine_outer-requires
examine_outer-requires c =
    let P = c.requires in
    let long = c.exchange.auto in (
      omega (arith, P.two),
      omega (arith, P.places, long.active),
      omega (arith, P.places, P.alike, long.lanes),
      unfold turned_two in proper_places c.args.table.now _ _ c.args.live (omega (arith, P.places, long.active)) c.exchange.ensures.pieces_are P.proper,
    )

pub returns : goal.returns
unfolding turned_two pair_at
returns c =
    let a = c.args in
    record {
      live_is = refl;
      pieces_are = c.exchange.ensures.pieces_are;
      lanes_are =
          ap (take a.live) c.examine_outer.ensures
          ∙ outer_take a.table.now _ a.live a.k 2 a.p (omega (arith, c.requires.two)) _
          ∙ ap (outer_examined a.table.now _ a.live a.k 2 a.p) c.exchange.ensures.lanes_are;
      pairs_are = c.list_pair-to.ensures;
    }
