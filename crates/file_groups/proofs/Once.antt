-- Each public function's contract allows one result and one content of the lent bytes.
-- Assumes nothing.
use mathlib.Core.Path.{sym, ◌∙◌}
use Rattle.charts.specs.Outcome.{OneResult, OneOutcome}
use Rattle.file_groups.proofs.stored.Reads as stored
use Rattle.file_groups.proofs.put_groups.Reads as put_groups

pub stored_once : OneResult stored.Post
stored_once κ a x y s t h k = h ∙ sym k

pub put_groups_once : OneOutcome put_groups.Post (λ κ s. s.1.0.now)
put_groups_once κ a x y s t h k = (h.0 ∙ sym k.0, h.1 ∙ sym k.1)
