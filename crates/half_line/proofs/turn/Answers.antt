-- `half_line::turn` meets its contract: the six coordinates are those of the points.
use mathlib.Core.Path.{◌∙◌, ap}
use Rattle.integers.proofs.Machine.{m_eq}
use Rattle.integers.proofs.Tests.{ranged}
use Rattle.orientation.specs.Turn.{det, turn_of}
use Rattle.half_line.specs.HalfLine.{point_turn}
use Rattle.half_line.proofs.turn.Goals as goal

pub returns : goal.returns
unfolding point_turn det
returns c = c.orient.ensures ∙ ap turn_of (m_eq (search ranged depth 60 fits 20000) tt)
