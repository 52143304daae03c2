-- `ported_run::last_at` meets its contract.
use mathlib.Core.Path.{refl}
use borrow.Author.Tests.{eq-eqb, ne_eqb}
use Rattle.ported_run.proofs.last_at.Goals as goal

pub returns-then-steps-eq0 : goal.returns-then-steps-eq0
returns-then-steps-eq0 c = rw (eq-eqb _ _ c.if-steps-eq0.true) refl

pub returns-else-steps-eq0 : goal.returns-else-steps-eq0
returns-else-steps-eq0 c = rw (ne_eqb _ _ c.if-steps-eq0.false) refl
