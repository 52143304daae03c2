-- Both conversions lose nothing, so the one division is the fraction rounded once.
use lib.IntN.{pos}
use mir.Facts.{to_z-of_z}
use Rattle.place.proofs.Division.{held, one_division}
use Rattle.nearest_place.proofs.quotient.Goals as goal

pub int_to_float-over : goal.int_to_float-over
int_to_float-over c = rw (to_z-of_z c.ranges.x) (held c.args.x c.requires.0)

pub int_to_float-under : goal.int_to_float-under
int_to_float-under c = held (pos c.args.d) c.requires.2

pub returns : goal.returns
returns c =
    rw (to_z-of_z c.ranges.x) (one_division c.args.x c.args.d c.requires.0 c.requires.1 c.requires.2)
