use Rattle.batch_refusals.proofs.Laying.{Done}
use Rattle.sweep_batch.proofs.sweep_charts.Given as goal

abbrev pub invariant-loop-length : goal.invariant-loop-length
invariant-loop-length l = Done l.list l.lengths l.initial.pairs l.initial.results l.length-index l.pairs l.results l.from l.at l.first
