-- The contract of `meets` allows one answer.
-- Assumes nothing.
use mathlib.Core.Path.{sym, ◌∙◌}
use Rattle.charts.specs.Outcome.{OneResult}
use Rattle.quick_test.proofs.meets.Reads as meets

pub meets_once : OneResult meets.Post
meets_once κ a x y s t h k = h ∙ sym k
