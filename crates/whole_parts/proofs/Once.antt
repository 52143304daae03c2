-- Each public function's contract, as the check reads it, allows one result.
use mathlib.Core.Path.{sym, ◌∙◌}
use Rattle.integers.specs.Outcome.{OneResult}
use Rattle.whole_parts.proofs.compare_above.Reads as compare_above
use Rattle.whole_parts.proofs.compare_below.Reads as compare_below

pub compare_above_once : OneResult compare_above.Post
compare_above_once κs a x y s t p q = p ∙ sym q

pub compare_below_once : OneResult compare_below.Post
compare_below_once κs a x y s t p q = p ∙ sym q
