-- Each public function's contract, as the check reads it, allows one result.
use mathlib.Core.Path.{sym, ◌∙◌}
use Rattle.integers.specs.Outcome.{OneResult}
use Rattle.lowest_terms.proofs.gcd.Reads as gcd
use Rattle.lowest_terms.proofs.lowest.Reads as lowest
use Rattle.lowest_terms.proofs.whole.Reads as whole

pub gcd_once : OneResult gcd.Post
gcd_once κs a x y s t p q = p ∙ sym q

pub lowest_once : OneResult lowest.Post
lowest_once κs a x y s t p q = p ∙ sym q

pub whole_once : OneResult whole.Post
whole_once κs a x y s t p q = p ∙ sym q
