-- `drawing_of`: the verdict on the line, then the room for its numbers.
use mathlib.Core.Path.{sym}
use native.Mathlib.Omega.{arith}
use Rattle.std.proofs.lemmas.Result.{err_from_is_err_and}
use Rattle.folded_line.proofs.Verdicts.{goes, room_refused, room_eight, room_accepted}
use Rattle.line_refusals.proofs.drawing_of.Goals as goal

pub returns-in_err-n : goal.returns-in_err-n
returns-in_err-n c =
    let a = c.args in
    let p = err_from_is_err_and c.from_residual.result c.from_residual.ensures.1 in
    rw (p.1, p.2) (sym (room_refused a.m a.h a.s a.lent _ _ (sym c.in_err-n.ensures)))

pub overflow_mul-n : goal.overflow_mul-n
overflow_mul-n c = record { fits = omega (arith, (goes _ _ _ _ (sym c.in_ok-n.ensures)).few) }

pub returns-then-lent-n : goal.returns-then-lent-n
returns-then-lent-n c = let a = c.args in rw c.at.ensures (sym (room_eight a.m a.h a.s a.lent _ (sym c.in_ok-n.ensures) c.if-lent-n.true))

pub returns : goal.returns
returns c = let a = c.args in sym (room_accepted a.m a.h a.s a.lent _ (sym c.in_ok-n.ensures) c.if-lent-n.false)
