-- `is_off_range`: one number after the other.
use native.Mathlib.Omega.{arith}
use Rattle.folded_line.specs.Drawing.{off_range}
use Rattle.line_refusals.proofs.is_off_range.Goals as goal
use Rattle.line_refusals.proofs.is_off_range.Goals.{then-is_off, else-is_off}

pub returns-then-is_off-2 : goal.returns-then-is_off-2
unfolding off_range
returns-then-is_off-2 c =
    elim c.if-is_off.branch [
      | then-is_off w ↦ grind (arith, c.is_off.ensures, w.if-is_off.true, c.if-is_off-2.true)
      | else-is_off w ↦ grind (arith, c.is_off.ensures, w.if-is_off.false, w.is_off-else-is_off.ensures, w.value-is, c.if-is_off-2.true)
    ]

pub returns-else-is_off-2 : goal.returns-else-is_off-2
unfolding off_range
returns-else-is_off-2 c =
    elim c.if-is_off.branch [
      | then-is_off w ↦ grind (arith, w.value-is, c.if-is_off-2.false)
      | else-is_off w ↦ grind (arith, c.is_off.ensures, w.if-is_off.false, w.is_off-else-is_off.ensures, w.value-is, c.if-is_off-2.false, c.is_off-else-is_off-2.ensures)
    ]
