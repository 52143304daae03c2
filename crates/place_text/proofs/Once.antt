-- The contract allows one answer and one content of the lent bytes.
-- Assumes nothing.
use Rattle.charts.specs.Outcome.{OneOutcome}
use Rattle.decimals.proofs.Once.{one_text}
use Rattle.place_text.proofs.put_place.Reads as put_place

pub put_place_once : OneOutcome put_place.Post (λ κ s. s.0.now)
put_place_once κ a x y s t h k = one_text h k
