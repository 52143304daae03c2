-- Each arm knows where the pieces meet, and binary64 holds the numbers of every such point, by the pieces' types.
use mathlib.Core.Path.{ap, ap₂, ◌∙◌}
use Rattle.place.specs.declared.Place.TheVariants.{At, Along}
use Rattle.place.specs.Place.{place_of, in_binary64}
use Rattle.place.proofs.Held.{held_known}
use Rattle.place.proofs.Typed.{typed_piece}
use Rattle.nearest_place.proofs.place_of.Goals as goal

pub rounded-requires : goal.rounded-requires
rounded-requires c =
    held_known (typed_piece c.args.a _ c.well_formed.0) (typed_piece c.args.b _ c.well_formed.1.0) c.exact.ensures c.in-At.is

pub rounded-requires-in-Along : goal.rounded-requires-in-Along
rounded-requires-in-Along c =
    (held_known (typed_piece c.args.a _ c.well_formed.0) (typed_piece c.args.b _ c.well_formed.1.0) c.exact.ensures c.in-Along.is).0

pub rounded-requires-in-Along-2 : goal.rounded-requires-in-Along-2
rounded-requires-in-Along-2 c =
    (held_known (typed_piece c.args.a _ c.well_formed.0) (typed_piece c.args.b _ c.well_formed.1.0) c.exact.ensures c.in-Along.is).1

pub returns-in-Nothing : goal.returns-in-Nothing
unfolding place_of in_binary64
returns-in-Nothing c = rw (← c.exact.ensures, c.in-Nothing.is)

pub returns-in-At : goal.returns-in-At
unfolding place_of in_binary64
returns-in-At c = ap At c.rounded.ensures ∙ rw (← c.exact.ensures, c.in-At.is)

pub returns-in-Along : goal.returns-in-Along
unfolding place_of in_binary64
returns-in-Along c = ap₂ Along c.rounded-in-Along.ensures c.rounded-in-Along-2.ensures ∙ rw (← c.exact.ensures, c.in-Along.is)
