-- "For each input .. it allows one result": of each public function's contract, as the check reads it.
use mathlib.Core.Path.{sym, ◌∙◌}
use Rattle.region.proofs.Told.{region_named}
use Rattle.charts.specs.Outcome.{OneResult}
use Rattle.peak_in_region.proofs.locate.Reads as locate

pub locate_once : OneResult locate.Post
locate_once κ a x y s t h k = region_named x y (h ∙ sym k)
