-- `chart_verdict::meeting_of` meets its contract: by the verdict on the two pieces.
use mathlib.Core.Path.{sym}
use Rattle.charts.specs.Pair.{meeting_of}
use Rattle.chart_verdict.proofs.meeting_of.Goals as goal

pub returns-in-Err : goal.returns-in-Err
unfolding meeting_of
returns-in-Err c = rw (sym c.in-Err.ensures, c.number.ensures)

pub returns-in-Ok : goal.returns-in-Ok
unfolding meeting_of
returns-in-Ok c = rw (sym c.in-Ok.ensures, c.intersect.ensures, c.piece_at.ensures, c.piece_at-in-Ok.ensures)
