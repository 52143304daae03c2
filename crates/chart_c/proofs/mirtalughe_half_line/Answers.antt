-- `chart_c::mirtalughe_half_line` meets its contract: the fields of what the half-line's call answers.
use mathlib.Core.Path.{◌≡◌, ap, ◌∙◌}
use mir.Facts.{to_z-of_z}
use Rattle.half_line.specs.Call.{half_line_answer_of}
use Rattle.c_records.specs.Regions.{half_met_of}
use Rattle.chart_c.proofs.mirtalughe_half_line.Goals as goal
use Rattle.chart_c.proofs.mirtalughe_half_line.Goals.{After-asked-answer}

-- what the call says of the numbers themselves
said : (c : After-asked-answer) → let a = c.args in c.asked-answer.result ≡ half_line_answer_of a.kind a.x1 a.y1 a.x2 a.y2 a.x a.y a.tx a.ty
said c = let f = c.ranges in rw (c.asked-answer.ensures, to_z-of_z f.kind, to_z-of_z f.x1, to_z-of_z f.y1, to_z-of_z f.x2, to_z-of_z f.y2, to_z-of_z f.x, to_z-of_z f.y, to_z-of_z f.tx, to_z-of_z f.ty)

pub returns : goal.returns
unfolding half_met_of
returns c = c.half_met.ensures ∙ ap half_met_of (said c.before)
