-- `full_examine::is_steeper` meets its contract.
use mathlib.Core.Path.{ap, ap₂, ◌∙◌}
use Rattle.sweep.specs.Ported.{slope_order}
use Rattle.full_steps.specs.InPlace.{is_greater_lem}
use Rattle.full_examine.proofs.is_steeper.Goals as goal

pub returns : goal.returns
returns c = c.is_gt.ensures ∙ ap is_greater_lem (c.slope_order.ensures ∙ ap₂ slope_order c.piece.ensures c.piece-2.ensures)
