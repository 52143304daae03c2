-- `segment_test::leftmost` meets its contract: each arm knows the order of the ends.
use mathlib.Core.Path.{◌∙◌}
use Rattle.line_segment.specs.Segment.{leftmost_of, left_by}
use Rattle.segment_test.proofs.leftmost.Goals as goal

pub returns-in-Less : goal.returns-in-Less
unfolding leftmost_of left_by
returns-in-Less c = rw (← c.end_order.ensures, c.in-Less.is)

pub returns-in-Equal : goal.returns-in-Equal
unfolding leftmost_of left_by
returns-in-Equal c = c.exclusive.ensures ∙ rw (← c.end_order.ensures, c.in-Equal.is)

pub returns-in-Greater : goal.returns-in-Greater
unfolding leftmost_of left_by
returns-in-Greater c = rw (← c.end_order.ensures, c.in-Greater.is)
