-- `peak_in_region::region_at` meets its contract: a side has the peak, or those that count are odd or even in number.
use mathlib.Core.Path.{sym, ◌∙◌}
use borrow.Author.Tests.{eq-eqb, ne_eqb}
use Rattle.region.specs.Region.{region_of}
use Rattle.peak_in_region.proofs.region_at.Goals as goal

pub returns-then-is_on : goal.returns-then-is_on
unfolding region_of
returns-then-is_on c = rw (sym c.is_on.ensures ∙ c.if-is_on.true)

pub met-requires : goal.met-requires
met-requires c = c.requires

pub returns-then-met-eq1 : goal.returns-then-met-eq1
unfolding region_of
returns-then-met-eq1 c = rw (sym c.is_on.ensures ∙ c.if-is_on.false, ← c.met.ensures, eq-eqb _ _ c.if-met-eq1.true)

pub returns : goal.returns
unfolding region_of
returns c = rw (sym c.is_on.ensures ∙ c.if-is_on.false, ← c.met.ensures, ne_eqb _ _ c.if-met-eq1.false)
