-- Each public function's contract, as the check reads it, allows one result.
use mathlib.Core.Path.{sym, ◌∙◌}
use Rattle.integers.specs.Outcome.{OneResult}
use Rattle.comparison.proofs.compare.Reads as compare
use Rattle.comparison.proofs.compare_points.Reads as compare_points
use Rattle.comparison.proofs.compare_ratios.Reads as compare_ratios

pub compare_once : OneResult compare.Post
compare_once κs a x y s t p q = p ∙ sym q

pub compare_points_once : OneResult compare_points.Post
compare_points_once κs a x y s t p q = p ∙ sym q

pub compare_ratios_once : OneResult compare_ratios.Post
compare_ratios_once κs a x y s t p q = p ∙ sym q
