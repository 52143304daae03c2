-- `lowest_terms::gcd` meets its contract by Euclid's steps.
use mathlib.Core.Path.{◌∙◌}
use Rattle.fractions.proofs.Euclid.{gcd_none, gcd_step}
use Rattle.lowest_terms.proofs.+gcd.Goals as goal

pub returns-then-b-eq0 : goal.returns-then-b-eq0
returns-then-b-eq0 t c = gcd_none _ _ c.if-b-eq0.true

pub returns : goal.returns
returns t c = c.gcd.ensures ∙ gcd_step c.args.a c.args.b
