-- Each arm knows the verdict; the pieces are those of the list.
use mathlib.Core.Path.{sym}
use Rattle.place.specs.Pair.{place_answer_of}
use Rattle.nearest_place.proofs.pair_place.Goals as goal

pub returns-in-Err : goal.returns-in-Err
unfolding place_answer_of
returns-in-Err c = rw (sym c.in-Err.ensures, c.number.ensures)

pub returns-in-Ok : goal.returns-in-Ok
unfolding place_answer_of
returns-in-Ok c = rw (sym c.in-Ok.ensures, c.place_of.ensures, c.piece_at.ensures, c.piece_at-in-Ok.ensures)
