-- "For each input .. it allows one result": of each public function's contract, as the check reads it.
use mathlib.Core.Path.{sym, ◌∙◌}
use Rattle.integers.specs.Outcome.{OneResult}
use Rattle.segment_test.proofs.join.Reads as join
use Rattle.segment_test.proofs.piece.Reads as piece
use Rattle.segment_test.proofs.leftmost.Reads as leftmost
use Rattle.segment_test.proofs.rightmost.Reads as rightmost
use Rattle.segment_test.proofs.allows.Reads as allows
use Rattle.segment_test.proofs.inner_between.Reads as inner_between
use Rattle.segment_test.proofs.intersect.Reads as intersect

pub join_once : OneResult join.Post
join_once κs a r r' s s' h k = h ∙ sym k

pub piece_once : OneResult piece.Post
piece_once κs a r r' s s' h k = h ∙ sym k

pub leftmost_once : OneResult leftmost.Post
leftmost_once κs a r r' s s' h k = h ∙ sym k

pub rightmost_once : OneResult rightmost.Post
rightmost_once κs a r r' s s' h k = h ∙ sym k

pub allows_once : OneResult allows.Post
allows_once κs a r r' s s' h k = h ∙ sym k

pub inner_between_once : OneResult inner_between.Post
inner_between_once κs a r r' s s' h k = h ∙ sym k

pub intersect_once : OneResult intersect.Post
intersect_once κs a r r' s s' h k = h ∙ sym k
