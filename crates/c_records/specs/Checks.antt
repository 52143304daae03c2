-- What is said of a supplier's list, in C's numbers: 1 accepted, 2 an entry and its fault, 3 a missing pair.
use Rattle.supplied.specs.declared.Checked.{Checked}
use Rattle.supplied.specs.declared.Checked.TheVariants.{Accepted, Fault, Missing, Refused}
use Rattle.c_records.specs.declared.CheckedFields.{CheckedFields}

abbrev pub checked_as : Checked → CheckedFields
checked_as Accepted = record { number = 0; place = 0; says = 1; first = 0; second = 0 }
checked_as (Fault i fault) = record { number = 0; place = 0; says = 2; first = i; second = fault }
checked_as (Missing a b) = record { number = 0; place = 0; says = 3; first = a; second = b }
-- "A refusal returns its number and a place, with every other field zero"
checked_as (Refused number place) = record { number = number; place = place; says = 0; first = 0; second = 0 }
