-- `ported_pieces::contains` meets its contract.
use mathlib.Core.Path.{◌∙◌}
use Rattle.ported_pieces.proofs.contains.Goals as goal

pub returns : goal.returns
returns c = c.contains.ensures ∙ rw c.piece.ensures
