-- `comparison::is_below` meets its contract: 0 is not below 0, whatever its sign.
use mathlib.Core.Path.{◌∙◌}
use Rattle.comparison.proofs.Crossed.{test_below, test_above}
use Rattle.comparison.proofs.is_below.Goals as goal

pub returns-then-f : goal.returns-then-f
returns-then-f c = test_below _ c.if-f.true

pub returns-else-f : goal.returns-else-f
returns-else-f c = c.if-f.false ∙ test_above _ c.if-f.false
