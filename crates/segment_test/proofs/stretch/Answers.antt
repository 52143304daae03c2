-- `segment_test::stretch` meets its contract: each arm knows the order of the two ends of the stretch.
use mathlib.Core.Path.{◌≡◌, refl, sym}
use Rattle.std.specs.declared.cmp.Ordering.TheVariants.{Equal}
use Rattle.line_segment.specs.Segment.{stretch_of, stretch_by}
use Rattle.line_segment.proofs.Answers.{stretch_yes, stretch_no}
use Rattle.segment_test.proofs.stretch.Goals as goal
use Rattle.segment_test.proofs.stretch.Goals.{else-right-via-then-right+else-left, else-right-via-else-right}

pub returns-in-Less : goal.returns-in-Less
unfolding stretch_of stretch_by
returns-in-Less c = rw (← c.rightmost-left.ensures, ← c.leftmost-right.ensures, ← c.end_order.ensures, c.in-Less.is)

pub returns-then-left : goal.returns-then-left
unfolding stretch_of
returns-then-left c =
    rw (← c.rightmost-left.ensures, ← c.leftmost-right.ensures, ← c.end_order.ensures, c.in-Equal.is)
    (stretch_yes Equal _ (rw (c.if-right.true, c.if-left.true) refl))

pub returns-else-right : goal.returns-else-right
unfolding stretch_of
returns-else-right c =
    rw (← c.rightmost-left.ensures, ← c.leftmost-right.ensures, ← c.end_order.ensures, c.in-Equal.is)
    (elim c.else-right.branch [
      | else-right-via-then-right+else-left w ↦ stretch_no Equal _ (rw (w.if-right.true, w.if-left.false) refl)
      | else-right-via-else-right w ↦ stretch_no Equal _ (rw w.if-right.false refl)
    ])

pub returns-in-Greater : goal.returns-in-Greater
unfolding stretch_of stretch_by
returns-in-Greater c = rw (← c.rightmost-left.ensures, ← c.leftmost-right.ensures, ← c.end_order.ensures, c.in-Greater.is)
