-- "For each input .. it allows one result": of each public function's contract, as the check reads it.
use mathlib.Core.Path.{sym, ◌∙◌}
use Rattle.integers.specs.Outcome.{OneResult}
use Rattle.segment_holds.proofs.contains.Reads as contains

pub contains_once : OneResult contains.Post
contains_once κs a r r' s s' h k = h ∙ sym k
