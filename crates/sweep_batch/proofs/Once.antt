-- The contract of `sweep_batch` allows one answer, one content of the lent bytes and one of the numbers.
-- Assumes nothing.
use mathlib.Core.Path.{sym, ◌∙◌}
use mathlib.Core.List.{List}
use Prim.Native.Nat.{ℕ}
use Rattle.charts.specs.Outcome.{OneOutcome}
use Rattle.sweep_batch.proofs.sweep_batch.Reads as sweep_batch

pub sweep_batch_once : OneOutcome sweep_batch.Post {M = List ℕ × List ℕ} (λ κ s. (s.1.1.0.now, s.1.1.1.0.now))
sweep_batch_once κ a x y s t h k =
    (h.answer ∙ sym k.answer, λ i. ((h.bytes ∙ sym k.bytes) i, (h.told_is ∙ sym k.told_is) i))
