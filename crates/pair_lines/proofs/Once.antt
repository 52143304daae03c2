-- The contract allows one answer and one content of the lent bytes.
-- Assumes nothing.
use Rattle.charts.specs.Outcome.{OneOutcome}
use Rattle.decimals.proofs.Once.{one_text}
use Rattle.pair_lines.proofs.put_pairs.Reads as put_pairs

pub put_pairs_once : OneOutcome put_pairs.Post (λ κ s. s.1.1.0.now)
put_pairs_once κ a x y s t h k = one_text h k
