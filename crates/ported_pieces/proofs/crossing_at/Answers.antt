-- `ported_pieces::crossing_at` meets its contract: Cramer's point compares as the crossing.
use mathlib.Core.Path.{◌∙◌}
use Rattle.ported_pieces.proofs.Crossings.{crossing_at_is}
use Rattle.ported_pieces.proofs.crossing_at.Goals as goal

pub returns : goal.returns
returns c n = c.same.ensures ∙ rw c.rough_crossing.ensures (crossing_at_is n _ _ _)
