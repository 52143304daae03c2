-- `segment_test::join` meets its contract: each arm knows the order of the ends.
use Rattle.std.proofs.Common.{inl, inr}
use Rattle.line_segment.specs.Piece.{join_of, join_by}
use Rattle.segment_test.proofs.join.Goals as goal

pub returns-in-Less : goal.returns-in-Less
unfolding join_of join_by
returns-in-Less c = rw (← c.end_order.ensures, c.in-Less.is)

pub returns-in-Equal : goal.returns-in-Equal
unfolding join_of join_by
returns-in-Equal c = elim c.in-Equal.is [ inl e ↦ rw (← c.end_order.ensures, e) | inr e ↦ rw (← c.end_order.ensures, e) ]
