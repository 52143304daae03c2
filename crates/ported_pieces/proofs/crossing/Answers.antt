-- `ported_pieces::crossing` meets its contract.
use mathlib.Core.Path.{◌∙◌}
use Rattle.ported_pieces.proofs.crossing.Goals as goal

pub returns : goal.returns
returns c n =
    c.crossing.ensures
    ∙ rw (c.piece.ensures, c.piece-2.ensures, c.first_of.ensures, c.second_of.ensures)
