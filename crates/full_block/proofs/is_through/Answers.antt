-- `full_block::is_through` meets its contract: the point is on the piece's line.
use mathlib.Core.Path.{ap, ◌∙◌}
use Rattle.sweep.specs.Ported.{is_equal}
use Rattle.full_order.specs.Finer.{aside}
use Rattle.full_block.proofs.is_through.Goals as goal

pub returns : goal.returns
returns c q m = c.is_eq.ensures ∙ ap is_equal (c.aside.ensures q m ∙ ap (aside q) c.piece.ensures)
