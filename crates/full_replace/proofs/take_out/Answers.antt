-- `full_replace::take_out` meets its contract: the places behind lo are moved down by one.
use mathlib.Core.Path.{ap, ◌∙◌}
use Prim.Native.Nat.{◌-◌}
use native.Mathlib.Omega.{arith}
use lib.ListN.{take}
use Rattle.full_active.proofs.Single.{one_out}
use Rattle.full_replace.proofs.take_out.Goals as goal

pub returns : goal.returns
returns c =
    let a = c.args in
    let P = c.requires in
    record {
      count = omega (arith, P.inside);
      pieces_are = ap (take (a.live - 1)) c.shift.ensures.0 ∙ one_out a.active.now a.live a.lo (omega (arith, P.inside)) P.within;
      lanes_are = ap (take (a.live - 1)) c.shift.ensures.1 ∙ one_out a.lanes.now a.live a.lo (omega (arith, P.inside)) (omega (arith, P.within, P.alike));
    }
