-- `ported_pieces::rough_crossing` meets its contract.
use mathlib.Core.Path.{◌∙◌}
use Rattle.ported_pieces.specs.Table.{rough_at}
use Rattle.ported_pieces.proofs.rough_crossing.Goals as goal

pub returns : goal.returns
unfolding rough_at
returns c =
    c.cramer.ensures
    ∙ rw (c.piece.ensures, c.piece-2.ensures, c.first_of.ensures, c.second_of.ensures)
