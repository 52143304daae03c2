-- `full_block::is_below` meets its contract: the point is above the piece.
use mathlib.Core.Path.{ap, ◌∙◌}
use Rattle.full_steps.specs.InPlace.{is_greater_lem}
use Rattle.full_order.specs.Finer.{aside}
use Rattle.full_block.proofs.is_below.Goals as goal

pub returns : goal.returns
returns c q m = c.is_gt.ensures ∙ ap is_greater_lem (c.aside.ensures q m ∙ ap (aside q) c.piece.ensures)
