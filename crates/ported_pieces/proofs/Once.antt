-- "It allows one result": of each public function's own contract, as the check reads it.
use mathlib.Core.Path.{sym, ◌∙◌}
use Rattle.integers.specs.Outcome.{OneResult}
use Rattle.ported_pieces.proofs.piece.Reads as piece
use Rattle.ported_pieces.proofs.end_point.Reads as end_point
use Rattle.ported_pieces.proofs.end_before.Reads as end_Before
use Rattle.ported_pieces.proofs.less.Reads as less
use Rattle.ported_pieces.proofs.same.Reads as same
use Rattle.ported_pieces.proofs.end_at.Reads as end_at
use Rattle.ported_pieces.proofs.crossing.Reads as crossing
use Rattle.ported_pieces.proofs.crossing_before.Reads as crossing_before
use Rattle.ported_pieces.proofs.crossing_at.Reads as crossing_at
use Rattle.ported_pieces.proofs.crossing_before_end.Reads as crossing_before_end
use Rattle.ported_pieces.proofs.crossing_beyond.Reads as crossing_beyond
use Rattle.ported_pieces.proofs.test.Reads as test
use Rattle.ported_pieces.proofs.contains.Reads as contains
use Rattle.ported_pieces.proofs.before.Reads as before

piece_one : OneResult piece.Post
piece_one κs a x y s t p q = p ∙ sym q

end_point_one : OneResult end_point.Post
end_point_one κs a x y s t p q = p 0 ∙ sym (q 0)

end_before_one : OneResult end_Before.Post
end_before_one κs a x y s t p q = p 0 ∙ sym (q 0)

less_one : OneResult less.Post
less_one κs a x y s t p q = p ∙ sym q

same_one : OneResult same.Post
same_one κs a x y s t p q = p ∙ sym q

end_at_one : OneResult end_at.Post
end_at_one κs a x y s t p q = p 0 ∙ sym (q 0)

crossing_one : OneResult crossing.Post
crossing_one κs a x y s t p q = p 0 ∙ sym (q 0)

crossing_before_one : OneResult crossing_before.Post
crossing_before_one κs a x y s t p q = p 0 ∙ sym (q 0)

crossing_at_one : OneResult crossing_at.Post
crossing_at_one κs a x y s t p q = p 0 ∙ sym (q 0)

crossing_before_end_one : OneResult crossing_before_end.Post
crossing_before_end_one κs a x y s t p q = p 0 ∙ sym (q 0)

crossing_beyond_one : OneResult crossing_beyond.Post
crossing_beyond_one κs a x y s t p q = p 0 ∙ sym (q 0)

test_one : OneResult test.Post
test_one κs a x y s t p q = p ∙ sym q

contains_one : OneResult contains.Post
contains_one κs a x y s t p q = p ∙ sym q

before_one : OneResult before.Post
before_one κs a x y s t p q = p ∙ sym q
