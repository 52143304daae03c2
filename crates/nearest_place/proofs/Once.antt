-- Each public function's contract allows one result.
-- Assumes nothing.
use mathlib.Core.Path.{sym, ◌∙◌}
use Rattle.integers.specs.Outcome.{OneResult}
use Rattle.nearest_place.proofs.place_of.Reads as place_of
use Rattle.nearest_place.proofs.pair_place.Reads as pair_place

pub place_of_once : OneResult place_of.Post
place_of_once κs a x y s t h k = h ∙ sym k

pub pair_place_once : OneResult pair_place.Post
pair_place_once κs a x y s t h k = h ∙ sym k
