-- The contracts of `all_pairs` and of `list_pairs` allow one answer and one content of the lent bytes.
-- Assumes nothing.
use mathlib.Core.Path.{sym, ◌∙◌}
use Rattle.charts.specs.Outcome.{OneOutcome}
use Rattle.all_pairs.proofs.all_pairs.Reads as all_pairs
use Rattle.all_pairs.proofs.list_pairs.Reads as list_pairs

pub all_pairs_once : OneOutcome all_pairs.Post (λ κ s. s.1.0.now)
all_pairs_once κ a x y s t h k = (h.0 ∙ sym k.0, h.1 ∙ sym k.1)

pub list_pairs_once : OneOutcome list_pairs.Post (λ κ s. s.1.1.0.now)
list_pairs_once κ a x y s t h k = (h.0 ∙ sym k.0, h.1 ∙ sym k.1)
