-- `segment_test::intersect` meets its contract: each branch knows how the ends of b lie to a.
use mathlib.Core.Path.{◌∙◌, sym}
use Rattle.line_segment.proofs.Answers.{both_on, min_on, max_on, none_on}
use Rattle.segment_test.proofs.intersect.Goals as goal

pub returns-then-is_colinear-2 : goal.returns-then-is_colinear-2
returns-then-is_colinear-2 c = c.stretch.ensures ∙ both_on _ _ c.turn_to-from.ensures c.turn_to-to.ensures (sym c.is_colinear.ensures ∙ c.if-is_colinear.true) (sym c.is_colinear-then-is_colinear.ensures ∙ c.if-is_colinear-2.true)

pub returns-else-is_colinear-2 : goal.returns-else-is_colinear-2
returns-else-is_colinear-2 c = c.touch.ensures ∙ min_on _ _ c.turn_to-from.ensures c.turn_to-to.ensures (sym c.is_colinear.ensures ∙ c.if-is_colinear.true) (sym c.is_colinear-then-is_colinear.ensures ∙ c.if-is_colinear-2.false)

pub returns-then-is_colinear-3 : goal.returns-then-is_colinear-3
returns-then-is_colinear-3 c = c.touch-then-is_colinear-3.ensures ∙ max_on _ _ c.turn_to-from.ensures c.turn_to-to.ensures (sym c.is_colinear.ensures ∙ c.if-is_colinear.false) (sym c.is_colinear-else-is_colinear.ensures ∙ c.if-is_colinear-3.true)

pub returns-else-is_colinear-3 : goal.returns-else-is_colinear-3
returns-else-is_colinear-3 c = c.cross.ensures ∙ rw c.opposite.ensures (none_on _ _ c.turn_to-from.ensures c.turn_to-to.ensures (sym c.is_colinear.ensures ∙ c.if-is_colinear.false) (sym c.is_colinear-else-is_colinear.ensures ∙ c.if-is_colinear-3.false))
