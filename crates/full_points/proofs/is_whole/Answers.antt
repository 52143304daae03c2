-- `full_points::is_whole` meets its contract.
use mathlib.Core.Path.{ap, ◌∙◌}
use lib.IntN.{ℤ, pos, ◌+ℤ◌}
use mir.Syntax.{w16}
use mir.ValLaws.{to_z-of_z}
use Rattle.integers.proofs.Naturals.{natural}
use Rattle.full_points.proofs.Spots.{from_least as least}
use Rattle.full_points.proofs.Spots.{whole_part_is, rest_is}
use Rattle.full_points.proofs.is_whole.Goals as goal

pub returns-then-r-eq0 : goal.returns-then-r-eq0
returns-then-r-eq0 c d h =
    let x = c.args.x in
    let e = c.from_least.ensures ∙ ap (λ (z : ℤ). z +ℤ pos 32768) (to_z-of_z w16 x c.ranges.x) in
    whole_part_is x _ _ _ d e h c.if-r-eq0.true

pub returns-else-r-eq0 : goal.returns-else-r-eq0
returns-else-r-eq0 c d h = rest_is c.args.x c.args.w c.args.r _ d (natural (least c.ranges.x)) h c.if-r-eq0.false
