-- The contract of `exact` allows one result.
-- Assumes nothing.
use mathlib.Core.Path.{sym, ◌∙◌}
use Rattle.integers.specs.Outcome.{OneResult}
use Rattle.exact_place.proofs.exact.Reads as exact

pub exact_once : OneResult exact.Post
exact_once κs a x y s t h k = h ∙ sym k
