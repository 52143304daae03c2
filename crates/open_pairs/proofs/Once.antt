-- The contracts of the calls allow one answer each, and one content of what is lent.
-- Assumes nothing.
use mathlib.Core.Path.{sym, ◌∙◌}
use Rattle.charts.specs.Outcome.{OneResult, OneOutcome}
use Rattle.open_pairs.proofs.used.Reads as used
use Rattle.open_pairs.proofs.all_pairs.Reads as all_pairs

pub used_once : OneResult used.Post
used_once κ a x y s t h k = h ∙ sym k

pub all_pairs_once : OneOutcome all_pairs.Post (λ κ s. s.1.0.now)
all_pairs_once κ a x y s t h k = (h.0 ∙ sym k.0, h.1 ∙ sym k.1)
