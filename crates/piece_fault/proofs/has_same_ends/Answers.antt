-- `piece_fault::has_same_ends` meets its contract: two numbers are the same where their bits are.
use mir.Syntax.{w32}
use native.Mathlib.Omega.{arith}
use Rattle.charts.specs.Fault.{same_ends}
use Rattle.charts.proofs.Numbers.{eq_bits}
use Rattle.piece_fault.proofs.has_same_ends.Goals as goal

pub returns-then-x1-x2 : goal.returns-then-x1-x2
unfolding same_ends
returns-then-x1-x2 c =
    let a = c.args in
    let f = c.ranges in
    grind (arith, c.if-x1-x2.true, eq_bits w32 a.x1 a.x2 f.x1 f.x2, eq_bits w32 a.y1 a.y2 f.y1 f.y2)

pub returns-else-x1-x2 : goal.returns-else-x1-x2
unfolding same_ends
returns-else-x1-x2 c =
    let a = c.args in
    let f = c.ranges in
    grind (arith, c.if-x1-x2.false, eq_bits w32 a.x1 a.x2 f.x1 f.x2, eq_bits w32 a.y1 a.y2 f.y1 f.y2)
