-- `ported_pieces::crossing_beyond` meets its contract: Cramer's point compares as the crossing.
use mathlib.Core.Path.{ap, ◌∙◌}
use Rattle.sweep.specs.Ported.{is_less}
use Rattle.ported_pieces.proofs.Crossings.{alike_rough}
use Rattle.ported_pieces.proofs.crossing_beyond.Goals as goal

pub returns : goal.returns
returns c n =
    c.less.ensures
    ∙ rw (c.cramer.ensures, c.piece.ensures, c.piece-2.ensures) (ap is_less (alike_rough _ _ _))
