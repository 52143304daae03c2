-- `half_line::asked` meets its contract: a fault, or the half-line and the piece of the numbers.
use mathlib.Core.Path.{◌≡◌}
use borrow.Author.Tests.{ne_eqb}
use mir.Facts.{to_z-of_z}
use Rattle.charts.specs.Refusal.{number}
use Rattle.charts.proofs.Refusals.{numbered}
use Rattle.half_line.specs.Call.{call_fault, half_line_answer_of}
use Rattle.half_line.proofs.asked.Goals as goal

pub returns-in-Some : goal.returns-in-Some
unfolding half_line_answer_of call_fault
returns-in-Some c =
    let f = c.ranges in
    let a = c.args in
    let e : number c.in-Some.reason ≡ call_fault a.kind a.x1 a.y1 a.x2 a.y2 a.x a.y a.tx a.ty = rw (c.in-Some.ensures, c.fault_of.ensures, to_z-of_z f.kind, to_z-of_z f.x1, to_z-of_z f.y1, to_z-of_z f.x2, to_z-of_z f.y2, to_z-of_z f.x, to_z-of_z f.y, to_z-of_z f.tx, to_z-of_z f.ty) in
    rw (← e, ne_eqb _ _ (numbered c.in-Some.reason), c.number.ensures)

pub returns-in-None : goal.returns-in-None
unfolding half_line_answer_of call_fault
returns-in-None c =
    let f = c.ranges in
    let a = c.args in
    let e : 0 ≡ call_fault a.kind a.x1 a.y1 a.x2 a.y2 a.x a.y a.tx a.ty = rw (c.fault_of.ensures, to_z-of_z f.kind, to_z-of_z f.x1, to_z-of_z f.y1, to_z-of_z f.x2, to_z-of_z f.y2, to_z-of_z f.x, to_z-of_z f.y, to_z-of_z f.tx, to_z-of_z f.ty) at c.in-None.ensures in
    rw (← e, c.intersect.ensures, c.corner_at.ensures, c.corner_at-in-None.ensures, c.piece_at.ensures, to_z-of_z f.kind, to_z-of_z f.x1, to_z-of_z f.y1, to_z-of_z f.x2, to_z-of_z f.y2, to_z-of_z f.x, to_z-of_z f.y, to_z-of_z f.tx, to_z-of_z f.ty)
