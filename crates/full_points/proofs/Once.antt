-- "It allows one result": of each public function's own contract, as the check reads it.
use mathlib.Core.Path.{sym, ◌∙◌}
use Rattle.integers.specs.Outcome.{OneResult}
use Rattle.full_points.proofs.key_of.Reads as key_of

key_of_one : OneResult key_of.Post
key_of_one κs a x y s t p q = p ∙ sym q
