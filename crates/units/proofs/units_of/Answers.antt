-- `units::units_of` meets its contract: the whole part, and it again or one more.
use native.Mathlib.Omega.{arith}
use borrow.Author.Rules.{rules}
use mir.Syntax.{w64}
use mir.Val.{SFits}
use mir.Facts.{to_z-of_z}
use Rattle.units.specs.Units.{Divided}
use Rattle.units.proofs.Sides.{low_of_lem, high_even, high_next, none_under, are_units}
use Rattle.units.proofs.Signed.{one_more_fits}
use Rattle.units.proofs.units_of.Goals as goal
use Rattle.units.proofs.units_of.Goals.{After-divide-parts}

pub returns-then-d-eq0 : goal.returns-then-d-eq0
returns-then-d-eq0 c = none_under _ _ c.if-d-eq0.true

-- the whole part as the code holds it
held : (c : After-divide-parts) → SFits w64 c.divide-parts.result.whole
held c = search rules

said : (c : After-divide-parts) → Divided c.args.x c.args.d c.divide-parts.result.whole c.divide-parts.result.rest
said c = rw (to_z-of_z c.ranges.x) at c.divide-parts.ensures

pub overflow_add-high : goal.overflow_add-high
overflow_add-high c =
    rw (to_z-of_z (held c.before.before.before)) (one_more_fits _ _ _ _ c.ranges.x (held c.before.before.before) (said c.before.before.before) (omega arith))

pub returns-then-parts-eq0 : goal.returns-then-parts-eq0
returns-then-parts-eq0 c =
    rw (to_z-of_z (held c.before.before.before))
    (are_units _ _ _ _ (omega arith) (low_of_lem (said c.before.before.before)) (high_even (rw c.if-parts-eq0.true at (said c.before.before.before))))

pub returns-else-parts-eq0 : goal.returns-else-parts-eq0
returns-else-parts-eq0 c =
    rw (to_z-of_z (overflow_add-high c), to_z-of_z (held c.before.before.before))
    (are_units _ _ _ _ (omega arith) (low_of_lem (said c.before.before.before)) (high_next (said c.before.before.before) (omega arith)))
