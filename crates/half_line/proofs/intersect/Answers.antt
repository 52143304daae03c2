-- `half_line::intersect` meets its contract: each branch knows how the ends lie to the line.
use mathlib.Core.Path.{◌∙◌, sym}
use Rattle.half_line.proofs.Answers.{both_on, min_on, max_on, none_on}
use Rattle.half_line.proofs.intersect.Goals as goal

pub returns-then-is_colinear-2 : goal.returns-then-is_colinear-2
returns-then-is_colinear-2 c = both_on _ _ _ c.corner_of-min.ensures c.corner_of-max.ensures c.turn-to_min.ensures c.turn-to_max.ensures (sym c.is_colinear.ensures ∙ c.if-is_colinear.true) (sym c.is_colinear-then-is_colinear.ensures ∙ c.if-is_colinear-2.true)

pub returns-then-is_colinear : goal.returns-then-is_colinear
returns-then-is_colinear c = c.leans.ensures ∙ min_on _ _ _ c.corner_of-min.ensures c.corner_of-max.ensures c.turn-to_min.ensures c.turn-to_max.ensures (sym c.is_colinear.ensures ∙ c.if-is_colinear.true) (sym c.is_colinear-then-is_colinear.ensures ∙ c.if-is_colinear-2.false) c.turn.ensures

pub returns-then-is_colinear-3 : goal.returns-then-is_colinear-3
returns-then-is_colinear-3 c = c.leans-then-is_colinear-3.ensures ∙ max_on _ _ _ c.corner_of-min.ensures c.corner_of-max.ensures c.turn-to_min.ensures c.turn-to_max.ensures (sym c.is_colinear.ensures ∙ c.if-is_colinear.false) (sym c.is_colinear-2.ensures ∙ c.if-is_colinear-3.true) c.turn-then-is_colinear-3.ensures

pub returns : goal.returns
returns c = c.passes.ensures ∙ none_on _ _ _ c.corner_of-min.ensures c.corner_of-max.ensures c.turn-to_min.ensures c.turn-to_max.ensures (sym c.is_colinear.ensures ∙ c.if-is_colinear.false) (sym c.is_colinear-2.ensures ∙ c.if-is_colinear-3.false) c.turn-2.ensures
