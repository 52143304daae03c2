-- `segment_test::inner_between` meets its contract: the second end is asked only where the first allows.
use mathlib.Core.Path.{◌∙◌, sym}
use Rattle.line_segment.specs.Piece.{end_order}
use Rattle.line_segment.proofs.Answers.{between_then, between_not}
use Rattle.segment_test.proofs.inner_between.Goals as goal

pub returns-then-allows : goal.returns-then-allows
unfolding end_order
returns-then-allows c =
    between_then _ _ _ c.join-s.ensures c.end_order.ensures
    (sym c.allows.ensures ∙ c.if-allows.true)
    c.end_order-then-allows.ensures c.allows-then-allows.ensures

pub returns-else-allows : goal.returns-else-allows
unfolding end_order
returns-else-allows c = between_not _ _ _ c.join-s.ensures c.end_order.ensures c.allows.ensures c.if-allows.false
