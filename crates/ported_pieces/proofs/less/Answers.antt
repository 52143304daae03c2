-- `ported_pieces::less` meets its contract.
use mathlib.Core.Path.{ap, ◌∙◌}
use Rattle.sweep.specs.Ported.{is_less}
use Rattle.ported_pieces.proofs.less.Goals as goal

pub returns : goal.returns
returns c = c.is_lt.ensures ∙ ap is_less c.compare_points.ensures
