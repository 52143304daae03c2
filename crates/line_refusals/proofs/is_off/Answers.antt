-- `is_off`: a number of the range is neither below it nor above it.
use native.Mathlib.Omega.{arith}
use Rattle.std.proofs.lemmas.Grind.{common_steps}
use Rattle.folded_line.specs.Drawing.{off}
use Rattle.line_refusals.proofs.is_off.Goals as goal

pub returns : goal.returns
unfolding off
returns c =
    let e = c.new.ensures in
    rw (c.contains.ensures.value, e.exhausted, e.start, e.end) grind (arith, common_steps)
