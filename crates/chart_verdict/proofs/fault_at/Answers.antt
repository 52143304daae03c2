-- `chart_verdict::fault_at` meets its contract: the five numbers are those of the piece.
use mir.Syntax.{w32}
use Rattle.charts.specs.Chart.{fault_at}
use Rattle.charts.proofs.Numbers.{told}
use Rattle.chart_verdict.proofs.fault_at.Goals as goal

pub returns : goal.returns
unfolding fault_at
returns c =
    let n1 = c.number_at in
    let n2 = c.number_at-2 in
    let n3 = c.number_at-3 in
    let n4 = c.number_at-4 in
    let n5 = c.number_at-5 in
    rw (
      c.fault_of.ensures,
      told w32 n1.result n1.type_inv n1.ensures,
      told w32 n2.result n2.type_inv n2.ensures,
      told w32 n3.result n3.type_inv n3.ensures,
      told w32 n4.result n4.type_inv n4.ensures,
      told w32 n5.result n5.type_inv n5.ensures,
    )
