-- `is_uneven`: the product is asked first, and the rest of the division where it is above H.
use mathlib.Core.Path.{refl}
use mathlib.Core.Bool.{not}
use Prim.Native.Nat.{◌%◌}
use native.Mathlib.Omega.{arith}
use borrow.Author.Tests.{lt-ltb, le-ltb}
use lib.Dec.{eqb}
use Rattle.charts.proofs.Numbers.{and_yes, and_no}
use Rattle.folded_line.specs.Drawing.{uneven}
use Rattle.folded_line.proofs.Verdicts.{product}
use Rattle.line_refusals.proofs.is_uneven.Goals as goal

pub overflow_mul-m : goal.overflow_mul-m
overflow_mul-m c = record { fits = omega (arith, product c.args.m c.args.s c.requires.order_most c.requires.speed_most) }

pub returns-then-h-m : goal.returns-then-h-m
unfolding uneven
returns-then-h-m c = and_yes (lt-ltb _ _ c.if-h-m.true) refl

pub returns-else-h-m : goal.returns-else-h-m
unfolding uneven
returns-else-h-m c = let a = c.args in and_no (not (eqb (a.h % a.m) 0)) refl (le-ltb _ _ c.if-h-m.false)
