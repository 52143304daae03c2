-- Each arm knows what the test answered.
use mathlib.Core.Path.{ap, ◌∙◌}
use Rattle.place.specs.declared.Where.TheVariants.{At}
use Rattle.place.specs.Place.{where_of, where_by}
use Rattle.exact_place.proofs.exact.Goals as goal

pub returns-in-Nothing : goal.returns-in-Nothing
unfolding where_of where_by
returns-in-Nothing c = rw (← c.intersect.ensures, c.in-Nothing.is)

pub returns-in-Crossing : goal.returns-in-Crossing
unfolding where_of where_by
returns-in-Crossing c = ap At c.crossing.ensures ∙ rw (← c.intersect.ensures, c.in-Crossing.is)

pub returns-in-Overlap : goal.returns-in-Overlap
unfolding where_of where_by
returns-in-Overlap c = c.along.ensures ∙ rw (← c.intersect.ensures, c.in-Overlap.is)
