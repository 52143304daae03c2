-- `segment_test::turn_to` meets its contract: the six coordinates are those of the ends.
use mathlib.Core.Path.{◌∙◌, ap}
use Rattle.integers.proofs.Machine.{m_eq}
use Rattle.integers.proofs.Tests.{ranged}
use Rattle.orientation.specs.Turn.{det, turn_of}
use Rattle.line_segment.specs.Segment.{turn_to}
use Rattle.segment_test.proofs.turn_to.Goals as goal

pub returns : goal.returns
unfolding turn_to det
returns c = c.orient.ensures ∙ ap turn_of (m_eq (search ranged depth 60 fits 20000) tt)
