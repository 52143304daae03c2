-- "For each input .. it allows one result": of each public function's contract, as the check reads it.
use mathlib.Core.Path.{sym, ◌∙◌}
use Rattle.integers.specs.Outcome.{OneResult}
use Rattle.half_line.proofs.intersect.Reads as intersect
use Rattle.half_line.proofs.corner_at.Reads as corner_at
use Rattle.half_line.proofs.asked.Reads as asked

pub intersect_once : OneResult intersect.Post
intersect_once κs a r r' s s' h k = h ∙ sym k

pub corner_at_once : OneResult corner_at.Post
corner_at_once κs a r r' s s' h k = h ∙ sym k

pub asked_once : OneResult asked.Post
asked_once κs a r r' s s' h k = h ∙ sym k
