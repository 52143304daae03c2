-- "For each input .. it allows one result": of each public function's contract, as the check reads it.
use mathlib.Core.Path.{sym, ◌∙◌}
use Rattle.integers.specs.Outcome.{OneResult}
use Rattle.segment_crossing.proofs.run.Reads as run
use Rattle.segment_crossing.proofs.rise.Reads as rise
use Rattle.segment_crossing.proofs.cramer.Reads as cramer
use Rattle.segment_crossing.proofs.crossing.Reads as crossing

pub run_once : OneResult run.Post
run_once κs a r r' s s' h k = h.0 ∙ sym k.0

pub rise_once : OneResult rise.Post
rise_once κs a r r' s s' h k = h.0 ∙ sym k.0

pub cramer_once : OneResult cramer.Post
cramer_once κs a r r' s s' h k = h ∙ sym k

pub crossing_once : OneResult crossing.Post
crossing_once κs a r r' s s' h k = h ∙ sym k
