-- The contract of `sweep` allows one answer and one content of the lent bytes.
use mathlib.Core.Path.{sym, ◌∙◌}
use Rattle.charts.specs.Outcome.{OneOutcome}
use Rattle.full_sweep.proofs.sweep.Reads as sweep

pub sweep_once : OneOutcome sweep.Post (λ κ s. s.1.1.0.now)
sweep_once κ a x y s t h k = (h.0 ∙ sym k.0, h.1 ∙ sym k.1)
