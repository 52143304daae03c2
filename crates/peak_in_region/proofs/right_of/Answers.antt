-- `peak_in_region::right_of` meets its contract: x stops before the last.
use borrow.Author.Rules.{rules}
use mir.Syntax.{w16}
use mir.Val.{SFits}
use mir.Facts.{to_z-of_z}
use Rattle.region.proofs.Right.{right_fits}
use Rattle.peak_in_region.proofs.right_of.Goals as goal

pub overflow_add-result : goal.overflow_add-result
overflow_add-result c =
    let a = c.args in
    let f : SFits w16 a.p.x = search rules in
    rw (to_z-of_z f) (right_fits a.p.x f c.requires)

pub returns : goal.returns
returns c =
    let a = c.args in
    let f : SFits w16 a.p.x = search rules in
    let g : SFits w16 a.p.y = search rules in
    rw (to_z-of_z f, to_z-of_z g, to_z-of_z (right_fits a.p.x f c.requires))
