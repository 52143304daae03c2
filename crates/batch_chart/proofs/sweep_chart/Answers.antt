-- `sweep_chart`: the single call, and its result in numbers.
use mathlib.Core.Path.{ap, ◌∙◌}
use Rattle.batch_result.specs.Numbers.{numbers_of}
use Rattle.batch_result.specs.Single.{swept_alone, left_alone}
use Rattle.batch_chart.proofs.sweep_chart.Goals as goal

pub returns : goal.returns
unfolding swept_alone left_alone
returns c =
    let s = c.sweep-swept.ensures in
    (s.1, c.put_result.ensures ∙ ap numbers_of s.0)
