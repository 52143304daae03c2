-- The contract of `draw` allows one answer and one content of the lent list.
-- Assumes nothing.
use mathlib.Core.Path.{sym, ◌∙◌}
use Rattle.charts.specs.Outcome.{OneOutcome}
use Rattle.line_drawing.proofs.draw.Reads as draw

pub draw_once : OneOutcome draw.Post (λ κ s. s.1.1.1.0.now)
draw_once κ a x y s t h k = (h.answer ∙ sym k.answer, h.content ∙ sym k.content)
