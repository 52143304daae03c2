-- The writer's contract allows one answer and one content of the lent bytes.
use mathlib.Core.Path.{sym, ◌∙◌}
use Rattle.charts.specs.Outcome.{OneOutcome}
use Rattle.file_writer.proofs.write.Reads as write

pub write_once : OneOutcome write.Post (λ κ s. s.1.0.now)
write_once κ a x y s t h k = (h.answer ∙ sym k.answer, h.content ∙ sym k.content)
