-- `comparison::sign_times` meets its contract.
use mathlib.Core.Path.{◌∙◌}
use native.Mathlib.Omega.{arith}
use Rattle.fractions.proofs.Orders.{nat_ordered}
use Rattle.comparison.proofs.Crossed.{times_none, times_below, times_above}
use Rattle.comparison.proofs.sign_times.Goals as goal

pub returns-then-n-eq0 : goal.returns-then-n-eq0
returns-then-n-eq0 c = times_none _ _ c.if-n-eq0.true

pub returns-then-f : goal.returns-then-f
returns-then-f c = c.cmp.ensures ∙ nat_ordered _ _ ∙ times_below _ _ (omega arith) c.if-f.true

pub returns-else-f : goal.returns-else-f
returns-else-f c = c.cmp-else-f.ensures ∙ nat_ordered _ _ ∙ times_above _ _ (omega arith) c.if-f.false
