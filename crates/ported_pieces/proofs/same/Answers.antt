-- `ported_pieces::same` meets its contract.
use mathlib.Core.Path.{ap, ◌∙◌}
use Rattle.sweep.specs.Ported.{is_equal}
use Rattle.ported_pieces.proofs.same.Goals as goal

pub returns : goal.returns
returns c = c.is_eq.ensures ∙ ap is_equal c.compare_points.ensures
