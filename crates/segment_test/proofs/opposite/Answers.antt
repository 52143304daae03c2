-- `segment_test::opposite` meets its contract: the one turn is the other reversed.
use mathlib.Core.Path.{◌∙◌}
use Rattle.orientation.proofs.Signs.{same_is}
use Rattle.line_segment.specs.Segment.{opposed}
use Rattle.segment_test.proofs.opposite.Goals as goal

pub returns : goal.returns
unfolding opposed
returns c = c.eq.ensures ∙ same_is _ _ ∙ rw c.reverse.ensures
