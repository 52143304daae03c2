-- `comparison::compare` meets its contract: over 0 by the sign of one product; above it by whole parts, which differ where the signs do.
use mathlib.Core.Path.{sym, ap, ◌∙◌}
use native.Mathlib.Omega.{arith}
use Rattle.fractions.specs.Order.{turned}
use Rattle.comparison.proofs.Crossed.{first_over_zero, second_over_zero, both_below, first_below, second_below, none_below}
use Rattle.comparison.proofs.compare.Goals as goal

pub returns-then-a-eq0 : goal.returns-then-a-eq0
returns-then-a-eq0 c = c.sign_times.ensures ∙ first_over_zero _ _ c.if-a-eq0.true

pub returns-then-b-eq0 : goal.returns-then-b-eq0
returns-then-b-eq0 c = c.reverse.ensures ∙ ap turned c.sign_times-then-b-eq0.ensures ∙ second_over_zero _ _ c.if-b-eq0.true

pub returns-in-true-true : goal.returns-in-true-true
returns-in-true-true c = c.compare_below.ensures ∙ both_below _ _ (sym (c.in-true-true.ensures)) (sym (c.in-true-true.ensures'))

pub returns-in-true-false : goal.returns-in-true-false
returns-in-true-false c = first_below _ _ (omega arith) (omega arith) (sym (c.in-true-false.ensures)) (sym (c.in-true-false.ensures'))

pub returns-in-false-true : goal.returns-in-false-true
returns-in-false-true c = second_below _ _ (omega arith) (omega arith) (sym (c.in-false-true.ensures)) (sym (c.in-false-true.ensures'))

pub returns-in-false-false : goal.returns-in-false-false
returns-in-false-false c = c.compare_above.ensures ∙ none_below _ _ (sym (c.in-false-false.ensures)) (sym (c.in-false-false.ensures'))
