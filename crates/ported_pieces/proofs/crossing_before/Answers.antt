-- `ported_pieces::crossing_before` meets its contract: Cramer's points compare as the crossings.
use mathlib.Core.Path.{◌∙◌}
use Rattle.ported_pieces.proofs.Crossings.{crossing_before_is}
use Rattle.ported_pieces.proofs.crossing_before.Goals as goal

pub returns : goal.returns
returns c n =
    c.less.ensures
    ∙ rw (c.rough_crossing.ensures, c.rough_crossing-2.ensures) (crossing_before_is n _ _ _)
