-- `sweep_batch`: by the refusal.
use mathlib.Core.Path.{sym, ◌∙◌}
use Rattle.charts.proofs.Refusals.{numbered}
use Rattle.batch_refusals.proofs.Answering.{refused_batch, roomy, done_batch}
use Rattle.sweep_batch.proofs.sweep_batch.Goals as goal

pub returns-in-Some : goal.returns-in-Some
returns-in-Some c =
    let a = c.args in
    refused_batch a.list.now a.lengths.now a.pairs.now a.results.now c.refused.result _ c.in-Some.ensures (numbered c.in-Some.reason) (rw c.at.ensures at c.refused.ensures)

pub sweep_charts-requires : goal.sweep_charts-requires
sweep_charts-requires c =
    let a = c.args in
    roomy a.list.now a.lengths.now a.pairs.now a.results.now (sym c.in-None.ensures)

pub returns-in-None : goal.returns-in-None
returns-in-None c =
    let a = c.args in
    done_batch a.list.now a.lengths.now a.pairs.now a.results.now (sym c.in-None.ensures) c.done.result _ _ c.done.ensures c.sweep_charts.ensures
