-- `full_least::meeting_at` meets its contract.
use mathlib.Core.Path.{◌∙◌}
use Rattle.full_lanes.proofs.Laning.{meeting_is}
use Rattle.full_least.proofs.meeting_at.Goals as goal

pub returns : goal.returns
returns c = c.crossing_of.ensures ∙ meeting_is _ _ _
