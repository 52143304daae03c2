-- `ported_heights::level` meets its contract.
use mir.Syntax.{w16}
use mir.ValLaws.{to_z-of_z}
use Rattle.ported_heights.specs.Heights.{level_at}
use Rattle.ported_heights.proofs.level.Goals as goal

pub returns : goal.returns
unfolding level_at
returns c = rw (to_z-of_z w16 c.args.y c.ranges.y)
