-- The contracts allow one answer and one content of the lent bytes.
-- Assumes nothing.
use Rattle.charts.specs.Outcome.{OneOutcome}
use Rattle.decimals.proofs.Once.{one_text}
use Rattle.count_lines.proofs.put_count.Reads as put_count
use Rattle.count_lines.proofs.put_complete.Reads as put_complete

pub put_count_once : OneOutcome put_count.Post (λ κ s. s.0.now)
put_count_once κ a x y s t h k = one_text h k

pub put_complete_once : OneOutcome put_complete.Post (λ κ s. s.0.now)
put_complete_once κ a x y s t h k = one_text h k
