-- `piece_fault::is_outside` meets its contract: a number of the range is neither below it nor above it.
use native.Mathlib.Omega.{arith}
use mir.Facts.{to_z-of_z}
use Rattle.std.proofs.lemmas.Grind.{common_steps}
use Rattle.charts.specs.Fault.{outside}
use Rattle.piece_fault.proofs.is_outside.Goals as goal

pub returns : goal.returns
unfolding outside
returns c =
    let e = c.new.ensures in
    let f = c.ranges in
    rw (c.contains.ensures.value, e.exhausted, e.start, e.end, to_z-of_z f.low, to_z-of_z f.high, to_z-of_z f.v) grind (arith, common_steps)
