-- `line_verdict`: 12, then 13, then 14, each where the ones before it are not due.
use mathlib.Core.Path.{sym, ◌∙◌}
use native.Mathlib.Omega.{arith}
use Rattle.folded_line.specs.Line.{count}
use Rattle.folded_line.specs.Drawing.{Sized}
use Rattle.folded_line.proofs.Verdicts.{product, sized, says_12, says_13, says_14, says_count}
use Rattle.line_refusals.proofs.line_verdict.Goals as goal
use Rattle.line_refusals.proofs.line_verdict.Goals.{Else-is_off_range, Else-is_uneven}

pub returns-then-is_off_range : goal.returns-then-is_off_range
returns-then-is_off_range c = rw c.at.ensures (sym (says_12 _ _ _ (sym c.is_off_range.ensures ∙ c.if-is_off_range.true)))

pub is_uneven-requires : goal.is_uneven-requires
is_uneven-requires c = sized _ _ _ (sym c.is_off_range.ensures ∙ c.if-is_off_range.false)

pub returns-then-is_uneven : goal.returns-then-is_uneven
returns-then-is_uneven c = rw c.at-then-is_uneven.ensures (sym (says_13 _ _ _ (sym c.is_off_range.ensures ∙ c.if-is_off_range.false) (sym c.is_uneven.ensures ∙ c.if-is_uneven.true)))

-- the numbers are in range
small : (c : Else-is_uneven) → let a = c.args in Sized a.m a.h a.s
small c = sized _ _ _ (sym c.is_off_range.ensures ∙ c.if-is_off_range.false)

pub overflow_mul-n : goal.overflow_mul-n
overflow_mul-n c = let a = c.args in record { fits = omega (arith, product a.m a.s (small c).order_most (small c).speed_most) }

pub overflow_sub-n : goal.overflow_sub-n
overflow_sub-n c = (small c).rate

pub overflow_add-n : goal.overflow_add-n
overflow_add-n c = let a = c.args in record { fits = omega (arith, product a.m a.s (small c).order_most (small c).speed_most, (small c).rate_most) }

pub nonzero_div-n : goal.nonzero_div-n
nonzero_div-n c = (small c).rate

pub returns-then-n-gt-MOST_PIECES : goal.returns-then-n-gt-MOST_PIECES
unfolding count
returns-then-n-gt-MOST_PIECES c = rw c.at-then-n-gt-MOST_PIECES.ensures (sym (says_14 _ _ _ (sym c.is_off_range.ensures ∙ c.if-is_off_range.false) (sym c.is_uneven.ensures ∙ c.if-is_uneven.false) c.if-n-gt-MOST_PIECES.true))

pub returns : goal.returns
unfolding count
returns c = sym (says_count _ _ _ (sym c.is_off_range.ensures ∙ c.if-is_off_range.false) (sym c.is_uneven.ensures ∙ c.if-is_uneven.false) c.if-n-gt-MOST_PIECES.false)
