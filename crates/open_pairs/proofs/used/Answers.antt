-- `open_pairs::used` meets its contract: as many as were gathered.
use Rattle.charts.specs.Answer.{done_with}
use Rattle.open_chart.proofs.Outcomes.{used_small, used_large}
use mathlib.Core.Path.{ap, ◌∙◌}
use Rattle.open_pairs.proofs.used.Goals as goal

pub returns-then-chart-lt-NUMBERS : goal.returns-then-chart-lt-NUMBERS
returns-then-chart-lt-NUMBERS c = (rw c.at.ensures at c.refused.ensures) ∙ used_small c.args.chart.now c.if-chart-lt-NUMBERS.true

pub returns : goal.returns
returns c =
    c.done.ensures ∙ ap done_with c.gather-standing.ensures.counted ∙ used_large c.args.chart.now c.if-chart-lt-NUMBERS.false
