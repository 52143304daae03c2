-- `full_examine::examine` meets its contract.
use mathlib.Core.Path.{ap}
use lib.ListN.{set}
use Rattle.full_examine.proofs.examine.Goals as goal

pub returns : goal.returns
returns c = ap (set c.args.lanes.now c.args.k) c.lane_at-key.ensures
