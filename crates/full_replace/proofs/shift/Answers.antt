-- `full_replace::shift` meets its contract: where nothing has to move, nothing does.
use mathlib.Core.Path.{◌≡◌}
use native.Mathlib.Omega.{arith}
use Rattle.full_active.proofs.Shifting.{stay}
use Rattle.full_replace.proofs.shift.Goals as goal

pub returns-else-to-hi : goal.returns-else-to-hi
returns-else-to-hi c =
    let e : c.args.to ≡ c.args.hi = omega arith in
    (rw e (stay c.args.active.now c.args.hi c.args.live (omega arith)), rw e (stay c.args.lanes.now c.args.hi c.args.live (omega arith)))
