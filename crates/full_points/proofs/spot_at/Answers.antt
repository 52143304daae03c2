-- `full_points::spot_at` meets its contract: an end has no remainders.
use mathlib.Core.Path.{ap, ◌∙◌}
use lib.IntN.{ℤ, pos, ◌+ℤ◌}
use mir.Syntax.{w16}
use mir.ValLaws.{to_z-of_z}
use Rattle.full_points.proofs.Spots.{end_fair, end_marks}
use Rattle.full_points.proofs.spot_at.Goals as goal

pub returns : goal.returns
returns c =
    let e = c.from_least.ensures ∙ ap (λ (z : ℤ). z +ℤ pos 32768) (to_z-of_z w16 c.args.x c.ranges.x) in
    let f = c.from_least-2.ensures ∙ ap (λ (z : ℤ). z +ℤ pos 32768) (to_z-of_z w16 c.args.y c.ranges.y) in
    (end_fair c.args.x c.args.y c.ranges.x c.ranges.y e f, end_marks c.args.x c.args.y c.ranges.x c.ranges.y e f)
