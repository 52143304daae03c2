-- `full_replace::exchange` meets its contract.
use native.Mathlib.Omega.{arith}
use lib.ListN.{length-set}
use Rattle.full_lanes.specs.Lanes.{no_key}
use Rattle.full_active.proofs.Shifting.{two_set}
use Rattle.full_replace.proofs.exchange.Goals as goal

pub bounds-active-k-4 : goal.bounds-active-k-4
bounds-active-k-4 c = simp length-set (omega arith)

pub bounds-lanes-k-2 : goal.bounds-lanes-k-2
bounds-lanes-k-2 c = simp length-set (omega arith)

pub returns : goal.returns
returns c =
    let a = c.args in
    record {
      count = omega arith;
      pieces_are = two_set a.active.now a.live a.k _ _ c.requires.0 c.requires.1;
      lanes_are = two_set a.lanes.now a.live a.k no_key no_key c.requires.0 (omega (arith, c.requires.1, c.requires.2));
    }
