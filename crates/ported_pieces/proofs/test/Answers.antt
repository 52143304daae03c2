-- `ported_pieces::test` meets its contract.
use mathlib.Core.Path.{◌∙◌}
use Rattle.ported_pieces.proofs.test.Goals as goal

pub returns : goal.returns
returns c = c.intersect.ensures ∙ rw (c.piece.ensures, c.piece-2.ensures)
