-- `ported_passing::free_mark` meets its contract.
use mathlib.Core.Path.{refl}
use borrow.Author.Tests.{eq-eqb, ne_eqb}
use lib.ListN.{get_or-eq_default}
use Rattle.ported_arrays.specs.Event.{free}
use Rattle.ported_passing.proofs.free_mark.Goals as goal

pub returns-then-marks-c-eq1 : goal.returns-then-marks-c-eq1
unfolding free
returns-then-marks-c-eq1 c = rw (eq-eqb _ _ c.if-marks-c-eq1.true) refl

pub returns-else-marks-c-eq1 : goal.returns-else-marks-c-eq1
unfolding free
returns-else-marks-c-eq1 c = rw (ne_eqb _ _ c.if-marks-c-eq1.false) refl

pub returns-else-c-marks : goal.returns-else-c-marks
unfolding free
returns-else-c-marks c = rw (get_or-eq_default c.args.marks.now 0 c.if-c-marks.false) refl
