-- `segment_test::cross` meets its contract: each branch knows how the ends of a lie to b.
use mathlib.Core.Path.{◌∙◌, sym}
use Rattle.line_segment.proofs.Answers.{own_min_on, own_max_on, crossed, not_astride, one_side}
use Rattle.segment_test.proofs.cross.Goals as goal
use Rattle.segment_test.proofs.cross.Goals.{else-astride-via-then-astride+else-opposite, else-astride-via-else-astride}

pub returns-then-is_colinear : goal.returns-then-is_colinear
returns-then-is_colinear c = c.touch.ensures ∙ own_min_on _ _ _ c.turn_to-from.ensures c.turn_to-to.ensures (sym c.is_colinear.ensures ∙ c.if-is_colinear.true)

pub returns-then-is_colinear-2 : goal.returns-then-is_colinear-2
returns-then-is_colinear-2 c = c.touch-then-is_colinear-2.ensures ∙ own_max_on _ _ _ c.turn_to-from.ensures c.turn_to-to.ensures (sym c.is_colinear.ensures ∙ c.if-is_colinear.false) (sym c.is_colinear-else-is_colinear.ensures ∙ c.if-is_colinear-2.true)

pub returns-then-opposite : goal.returns-then-opposite
returns-then-opposite c =
    crossed _ _ _ c.turn_to-from.ensures c.turn_to-to.ensures
    (sym c.is_colinear.ensures ∙ c.if-is_colinear.false)
    (sym c.is_colinear-else-is_colinear.ensures ∙ c.if-is_colinear-2.false)
    c.if-astride.true (sym c.opposite.ensures ∙ c.if-opposite.true)

pub returns-else-astride : goal.returns-else-astride
returns-else-astride c =
    let off = (sym c.is_colinear.ensures ∙ c.if-is_colinear.false) in
    let off' = (sym c.is_colinear-else-is_colinear.ensures ∙ c.if-is_colinear-2.false) in
    elim c.else-astride.branch [
      | else-astride-via-then-astride+else-opposite w ↦ one_side _ _ _ c.turn_to-from.ensures c.turn_to-to.ensures off off' (sym w.opposite.ensures ∙ w.if-opposite.false)
      | else-astride-via-else-astride w ↦ not_astride _ _ _ c.turn_to-from.ensures c.turn_to-to.ensures off off' w.if-astride.false
    ]
