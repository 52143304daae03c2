-- The contract of `put_listing` allows one answer and one content of the lent bytes.
-- Assumes nothing.
use mathlib.Core.Path.{sym, ◌∙◌}
use Rattle.charts.specs.Outcome.{OneOutcome}
use Rattle.listing_text.proofs.put_listing.Reads as put_listing

pub put_listing_once : OneOutcome put_listing.Post (λ κ s. s.1.0.now)
put_listing_once κ a x y s t h k = (h.0 ∙ sym k.0, h.1 ∙ sym k.1)
