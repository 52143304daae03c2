-- `piece_fault::fault_of` meets its contract: each answer follows from the tests that failed before it.
use mir.Facts.{to_z-of_z}
use native.Mathlib.Omega.{arith}
use Rattle.charts.specs.Fault.{fault_of}
use Rattle.piece_fault.proofs.fault_of.Goals as goal
use Rattle.piece_fault.proofs.fault_of.Goals.{then-is_off_range-via-then-is_off_range, then-is_off_range-via-else-is_off_range+then-is_off_range-2}

pub returns-then-is_outside : goal.returns-then-is_outside
unfolding fault_of
returns-then-is_outside c = grind (arith, to_z-of_z c.ranges.kind, c.if-is_outside.true, c.is_outside.ensures)

pub returns-then-is_off_range : goal.returns-then-is_off_range
unfolding fault_of
returns-then-is_off_range c =
    let f = c.ranges in
    elim c.then-is_off_range.branch [
      | then-is_off_range-via-then-is_off_range w ↦
          grind (arith, to_z-of_z f.kind, to_z-of_z f.x1, to_z-of_z f.y1, c.if-is_outside.false, c.is_outside.ensures, c.is_off_range.ensures, w.if-is_off_range.true)
      | then-is_off_range-via-else-is_off_range+then-is_off_range-2 w ↦
          grind (arith, to_z-of_z f.kind, to_z-of_z f.x1, to_z-of_z f.y1, to_z-of_z f.x2, to_z-of_z f.y2, c.if-is_outside.false, c.is_outside.ensures, c.is_off_range.ensures, w.if-is_off_range.false, w.is_off_range-else-is_off_range.ensures, w.if-is_off_range-2.true)
    ]

pub returns-then-has_same_ends : goal.returns-then-has_same_ends
unfolding fault_of
returns-then-has_same_ends c =
    let f = c.ranges in
    grind (arith, to_z-of_z f.kind, to_z-of_z f.x1, to_z-of_z f.y1, to_z-of_z f.x2, to_z-of_z f.y2, c.if-is_outside.false, c.is_outside.ensures, c.is_off_range.ensures, c.if-is_off_range.false, c.is_off_range-else-is_off_range.ensures, c.if-is_off_range-2.false, c.has_same_ends.ensures, c.if-has_same_ends.true)

pub returns : goal.returns
unfolding fault_of
returns c =
    let f = c.ranges in
    grind (arith, to_z-of_z f.kind, to_z-of_z f.x1, to_z-of_z f.y1, to_z-of_z f.x2, to_z-of_z f.y2, c.if-is_outside.false, c.is_outside.ensures, c.is_off_range.ensures, c.if-is_off_range.false, c.is_off_range-else-is_off_range.ensures, c.if-is_off_range-2.false, c.has_same_ends.ensures, c.if-has_same_ends.false)
