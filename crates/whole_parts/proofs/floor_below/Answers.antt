-- `whole_parts::floor_below` meets its contract: one more than the quotient, unless nothing is left.
use native.Mathlib.Nat.{mod-lt}
use native.Mathlib.Omega.{arith}
use Rattle.fractions.proofs.WholeParts.{floor_whole, floor_up, floor_fits}
use Rattle.whole_parts.proofs.floor_below.Goals as goal

pub returns-then-rest-eq0 : goal.returns-then-rest-eq0
returns-then-rest-eq0 c = (floor_whole _ _ c.if-rest-eq0.true, mod-lt c.args.n c.requires)

pub overflow_add-result : goal.overflow_add-result
overflow_add-result c = let h = floor_fits c.args.n c.args.d c.requires (omega arith) in omega arith

pub overflow_sub-result : goal.overflow_sub-result
overflow_sub-result c = omega (arith, mod-lt c.args.n c.requires)

pub returns : goal.returns
returns c = (floor_up _ _ c.requires, omega (arith, mod-lt c.args.n c.requires))
