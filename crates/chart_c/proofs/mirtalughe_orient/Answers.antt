-- `chart_c::mirtalughe_orient` meets its contract: it returns the number of the turn.
use mathlib.Core.Path.{◌∙◌, ap}
use mir.Syntax.{w8}
use Rattle.integers.proofs.Machine.{m_eq}
use Rattle.integers.proofs.Tests.{ranged}
use Rattle.charts.proofs.Numbers.{told}
use Rattle.orientation.specs.Turn.{det, turn_of}
use Rattle.c_records.specs.Numbers.{turn_number}
use Rattle.chart_c.proofs.mirtalughe_orient.Goals as goal

pub returns : goal.returns
unfolding det
returns c =
    let r = c.turn_number in
    rw (told w8 r.result r.type_inv r.ensures) (ap turn_number (c.orient.ensures ∙ ap turn_of (m_eq (search ranged depth 60 fits 20000) tt)))
