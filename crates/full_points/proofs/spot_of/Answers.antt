-- `full_points::spot_of` meets its contract: whole parts and remainders.
use borrow.Author.Rules.{rules}
use mathlib.Core.Path.{ap, ◌∙◌}
use lib.IntN.{ℤ, pos, ◌+ℤ◌, ◌*ℤ◌}
use mir.Syntax.{w64}
use mir.ValLaws.{to_z-of_z}
use Rattle.full_points.proofs.Spots.{spot_fair, spot_marks}
use Rattle.full_points.proofs.spot_of.Goals as goal

pub returns : goal.returns
returns c =
    let p = c.args.p in
    let h = c.requires in
    let e = c.shifted-x.ensures ∙ ap (λ (z : ℤ). z +ℤ pos 32768 *ℤ pos p.d) (to_z-of_z w64 p.x (search rules)) in
    let f = c.shifted-y.ensures ∙ ap (λ (z : ℤ). z +ℤ pos 32768 *ℤ pos p.d) (to_z-of_z w64 p.y (search rules)) in
    (spot_fair p h e f, spot_marks p h e f)
