-- The contract of `units_of` allows one answer.
-- Assumes nothing.
use mathlib.Core.Path.{sym, ◌∙◌}
use Rattle.integers.specs.Outcome.{OneResult}
use Rattle.units.proofs.units_of.Reads as units_of

pub units_of_once : OneResult units_of.Post
units_of_once κ a x y s t h k = h ∙ sym k
