-- The contracts of the calls allow one answer each, and one content of what is lent.
-- Assumes nothing.
use mathlib.Core.Path.{sym, ◌∙◌}
use Rattle.charts.specs.Outcome.{OneOutcome}
use Rattle.open_changes.proofs.empty.Reads as empty
use Rattle.open_changes.proofs.add.Reads as add
use Rattle.open_changes.proofs.drop.Reads as drop

pub empty_once : OneOutcome empty.Post (λ κ s. s.0.now)
empty_once κ a x y s t h k = (h.0 ∙ sym k.0, h.1 ∙ sym k.1)

pub add_once : OneOutcome add.Post (λ κ s. s.0.now)
add_once κ a x y s t h k = (h.0 ∙ sym k.0, h.1 ∙ sym k.1)

pub drop_once : OneOutcome drop.Post (λ κ s. s.0.now)
drop_once κ a x y s t h k = (h.0 ∙ sym k.0, h.1 ∙ sym k.1)
