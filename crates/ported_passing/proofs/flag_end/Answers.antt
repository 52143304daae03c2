use Prim.Native.Nat.{◌%◌}
use mathlib.Core.Path.{refl}
use borrow.Author.Tests.{eq-eqb, ne_eqb}
use Rattle.sweep.specs.Lists.{keep}
use Rattle.ported_arrays.specs.Numbers.{is_min}
use Rattle.ported_arrays.specs.Event.{flag, halves}
use Rattle.ported_passing.proofs.flag_end.Goals as goal

pub returns-then-e-eq0 : goal.returns-then-e-eq0
unfolding flag halves keep is_min
returns-then-e-eq0 c = rw (eq-eqb (c.args.e % 2) 0 c.if-e-eq0.true) (c.set_flag.ensures, refl)

pub returns-else-e-eq0 : goal.returns-else-e-eq0
unfolding flag halves keep is_min
returns-else-e-eq0 c = rw (ne_eqb (c.args.e % 2) 0 c.if-e-eq0.false) (refl, c.set_flag-else-e-eq0.ensures)
