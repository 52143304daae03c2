-- `ported_pieces::crossing_before_end` meets its contract: Cramer's point compares as the crossing.
use mathlib.Core.Path.{ap, ◌∙◌}
use Rattle.sweep.specs.Ported.{is_less}
use Rattle.ported_pieces.proofs.Crossings.{rough_before}
use Rattle.ported_pieces.proofs.crossing_before_end.Goals as goal

pub returns : goal.returns
returns c n =
    c.less.ensures
    ∙ rw (c.rough_crossing.ensures, c.end_point.ensures n) (ap is_less (rough_before n _ _ _))
