-- `half_line::leans` meets its contract: each branch knows what `==` says.
use mathlib.Core.Path.{◌∙◌, sym}
use Rattle.orientation.proofs.Signs.{same_is}
use Rattle.half_line.proofs.leans.Goals as goal

pub returns-then-eq : goal.returns-then-eq
returns-then-eq c = rw (sym (c.eq.ensures ∙ same_is _ _) ∙ c.if-eq.true)

pub returns-else-eq : goal.returns-else-eq
returns-else-eq c = rw (sym (c.eq.ensures ∙ same_is _ _) ∙ c.if-eq.false)
