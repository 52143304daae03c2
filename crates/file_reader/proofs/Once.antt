-- The reader's contract allows one answer and one content of the lent list.
use mathlib.Core.Path.{sym, ◌∙◌}
use Rattle.charts.specs.Outcome.{OneOutcome}
use Rattle.file_reader.proofs.read.Reads as reads

pub read_once : OneOutcome reads.Post (λ κ s. s.1.0.now)
read_once κ a x y s t h k = (h.answer ∙ sym k.answer, h.content ∙ sym k.content)
