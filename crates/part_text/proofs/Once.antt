-- The contract of `parts_of` allows one answer; that of `put_part` one answer and one content of the lent bytes.
-- Assumes nothing.
use mathlib.Core.Path.{sym, ◌∙◌}
use Rattle.charts.specs.Outcome.{OneResult, OneOutcome}
use Rattle.decimals.proofs.Once.{one_text}
use Rattle.part_text.proofs.parts_of.Reads as parts_of
use Rattle.part_text.proofs.put_part.Reads as put_part

pub parts_of_once : OneResult parts_of.Post
parts_of_once κ a x y s t h k = h ∙ sym k

pub put_part_once : OneOutcome put_part.Post (λ κ s. s.1.1.1.1.1.0.now)
put_part_once κ a x y s t h k = one_text h k
