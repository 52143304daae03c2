-- `draw`: by the verdict on the numbers and their room; then the pieces.
use mathlib.Core.Path.{◌≡◌, sym}
use lib.ListN.{length}
use Rattle.charts.specs.Verdict.{Accepted}
use Rattle.folded_line.specs.Drawing.{drawing_of}
use Rattle.folded_line.proofs.Outcomes.{ahead, draws_refused, draws_done}
use Rattle.line_drawing.proofs.draw.Goals as goal
use Rattle.line_drawing.proofs.draw.Goals.{In-Ok}

-- the drawing goes ahead, with n pieces
goes_on : (c : In-Ok)
    → let a = c.args in drawing_of a.m a.h a.s (length a.out.now) ≡ Accepted c.in-Ok.n
goes_on c = sym c.in-Ok.ensures

pub put_pieces-requires : goal.put_pieces-requires
put_pieces-requires c =
    let a = c.args in
    let g = ahead a.m a.h a.s a.out.now _ (goes_on c.before) in
    (g.small, g.few, g.room)

pub returns-in-Err : goal.returns-in-Err
returns-in-Err c =
    let a = c.args in
    draws_refused a.m a.h a.s a.out.now c.refused.result _ _ (sym c.in-Err.ensures) c.refused.ensures

pub returns-in-Ok : goal.returns-in-Ok
returns-in-Ok c =
    let a = c.args in
    draws_done a.m a.h a.s a.out.now c.done.result _ _ (goes_on c.before.before.before.before) c.done.ensures c.put_pieces.ensures
