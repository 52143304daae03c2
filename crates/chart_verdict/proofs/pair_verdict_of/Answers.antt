-- `chart_verdict::pair_verdict_of` meets its contract: ten numbers, or 9.
use mathlib.Core.Path.{sym, ◌∙◌}
use Rattle.charts.proofs.Ten.{pair_nine, pair_list}
use Rattle.chart_verdict.proofs.pair_verdict_of.Goals as goal

pub returns-then-list-eq10 : goal.returns-then-list-eq10
returns-then-list-eq10 c = c.verdict_of.ensures ∙ sym (pair_list c.args.list.now c.if-list-eq10.true)

pub returns-else-list-eq10 : goal.returns-else-list-eq10
returns-else-list-eq10 c = rw c.at.ensures (sym (pair_nine c.args.list.now c.if-list-eq10.false))
