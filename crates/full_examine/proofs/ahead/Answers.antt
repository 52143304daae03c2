-- `full_examine::ahead` meets its contract.
use mathlib.Core.Path.{sym, ◌∙◌}
use Rattle.full_examine.proofs.ahead.Goals as goal

pub returns-then-less : goal.returns-then-less
returns-then-less c = rw (sym c.less.ensures ∙ c.if-less.true) c.key_of.ensures

pub returns-else-less : goal.returns-else-less
returns-else-less c = rw (sym c.less.ensures ∙ c.if-less.false)
