-- `ported_table::marks_of` meets its contract.
use Rattle.ported_table.specs.Filled.{marks_of}
use Rattle.ported_table.proofs.marks_of.Goals as goal

pub returns-then-b : goal.returns-then-b
unfolding marks_of
returns-then-b c = rw (c.if-a.true, c.if-b.true)

pub returns-else-b : goal.returns-else-b
unfolding marks_of
returns-else-b c = rw (c.if-a.true, c.if-b.false)

pub returns-then-b-2 : goal.returns-then-b-2
unfolding marks_of
returns-then-b-2 c = rw (c.if-a.false, c.if-b-2.true)

pub returns-else-b-2 : goal.returns-else-b-2
unfolding marks_of
returns-else-b-2 c = rw (c.if-a.false, c.if-b-2.false)
