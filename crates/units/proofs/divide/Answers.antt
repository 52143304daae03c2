-- `units::divide` meets its contract, below 0 and from 0 on.
use mathlib.Core.Path.{ap, ◌∙◌}
use lib.IntN.{nat_abs}
use mir.Facts.{to_z-of_z}
use Rattle.integers.proofs.Tests.{ranged, m_yes, m_no}
use Rattle.units.proofs.Signed.{Below, below, Above, above}
use Rattle.units.proofs.divide.Goals as goal

negative : (c : goal.Then-x-lt0) → Below c.args.x c.args.d c.size-size.result
negative c =
    below c.args.x c.args.d c.ranges.x c.requires (c.size-size.ensures ∙ ap nat_abs (to_z-of_z c.ranges.x)) (m_yes c.if-x-lt0.true (search ranged depth 60 fits 20000) tt)

natural : (c : goal.Else-x-lt0) → Above c.args.x c.args.d c.size-size.result
natural c =
    above c.args.x c.args.d c.ranges.x c.requires (c.size-size.ensures ∙ ap nat_abs (to_z-of_z c.ranges.x)) (m_no c.if-x-lt0.false (search ranged depth 60 fits 20000) tt)

pub overflow_sub-below : goal.overflow_sub-below
overflow_sub-below c = (negative c).some

pub overflow_cast-result : goal.overflow_cast-result
overflow_cast-result c = (negative c).quotient

pub overflow_sub-result : goal.overflow_sub-result
overflow_sub-result c = (negative c).whole

pub overflow_sub-result-then-x-lt0-2 : goal.overflow_sub-result-then-x-lt0-2
overflow_sub-result-then-x-lt0-2 c = (negative c).rest

pub returns-then-x-lt0 : goal.returns-then-x-lt0
returns-then-x-lt0 c = (negative c).is

pub overflow_cast-result-2 : goal.overflow_cast-result-2
overflow_cast-result-2 c = (natural c).quotient

pub returns : goal.returns
returns c = (natural c).is
