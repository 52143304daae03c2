-- "For each input .. it allows one result": of each public function's contract, as the check reads it.
use mathlib.Core.Path.{sym, ◌∙◌}
use Rattle.charts.specs.Outcome.{OneResult}
use Rattle.charts.proofs.Refusals.{told_named}
use Rattle.outline.proofs.side_of.Reads as side_of
use Rattle.outline.proofs.verdict_of.Reads as verdict_of

pub side_of_once : OneResult side_of.Post
side_of_once κ a x y s t h k = h ∙ sym k

pub verdict_of_once : OneResult verdict_of.Post
verdict_of_once κ a x y s t h k = told_named x y (h ∙ sym k)
