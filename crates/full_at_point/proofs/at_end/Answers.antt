-- `full_at_point::at_end` meets its contract: the block is found by bisection.
use mathlib.Core.Path.{ap₂, ◌∙◌}
use native.Mathlib.Omega.{arith}
use mir.Syntax.{w16}
use mir.ValLaws.{to_z-of_z}
use Rattle.fractions.specs.Point.{whole_of}
use Rattle.full_at_point.proofs.AtPoint.{end_stands, end_carries, carries_to}
use borrow.Author.Rules.{rules}
use Rattle.full_at_point.proofs.at_end.Goals as goal

pub widen_up-hi-requires : goal.widen_up-hi-requires
widen_up-hi-requires c =
    let f = c.spot_at-spot.ensures in
    (f.0, c.requires.1.3.carried.lanes_are.places, omega (arith, (c.search-lo.ensures _ f.1).within))

pub step_at_end-requires : goal.step_at_end-requires
step_at_end-requires c =
    let e = ap₂ whole_of (to_z-of_z w16 _ (search rules) ∙ c.end_x-x.ensures) (to_z-of_z w16 _ (search rules) ∙ c.end_y-y.ensures) in
    let at = end_stands e c.spot_at-spot.ensures (c.whole.ensures ∙ e) in
    (end_carries c.requires.1.3 at c.search-lo.ensures c.widen_up-hi.ensures).steppable

pub returns : goal.returns
returns c n lent m a =
    let e = ap₂ whole_of (to_z-of_z w16 _ (search rules) ∙ c.end_x-x.ensures) (to_z-of_z w16 _ (search rules) ∙ c.end_y-y.ensures) in
    let at = end_stands e c.spot_at-spot.ensures (c.whole.ensures ∙ e) in
    carries_to a at (end_carries a at c.search-lo.ensures c.widen_up-hi.ensures) _ _ _ _
    (omega arith) (omega arith) (c.step_at_end.ensures _ at.marks)
