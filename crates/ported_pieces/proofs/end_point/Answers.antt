-- `ported_pieces::end_point` meets its contract: an end's x and y stand side by side.
use mathlib.Core.Path.{◌∙◌}
use Rattle.integers.proofs.Machine.{m_eq}
use Rattle.integers.proofs.Tests.{ranged}
use Rattle.ported_pieces.proofs.Ends.{the_end}
use Rattle.ported_pieces.proofs.end_point.Goals as goal

pub returns : goal.returns
returns c n =
    c.whole.ensures
    ∙ the_end n _ _ c.place_of-at.ensures
    (m_eq (search ranged depth 60 fits 20000) tt ∙ c.number.ensures)
    (m_eq (search ranged depth 60 fits 20000) tt ∙ c.number-2.ensures)
