-- A place in C's numbers: 0 nothing, 1 at a point, 2 along from one point to another, and the values.
use Rattle.std.specs.Prelude.{false, ℕ, pos, Float}
use Rattle.std.specs.Float.{fin}
use Rattle.place.specs.declared.Place.{Place}
use Rattle.place.specs.declared.PlaceAnswer.{PlaceAnswer}
use Rattle.c_records.specs.declared.Placed.{Placed}

abbrev pub zero : Float
zero = fin false 0 (pos 0)

-- "every other field zero, .. none or nothing"
abbrev pub placed_as : ℕ → ℕ → Place → Placed
placed_as number place Place.Nothing =
    record { number = number; place = place; meets = 0; x1 = zero; y1 = zero; x2 = zero; y2 = zero }
placed_as number place (Place.At v) =
    record { number = number; place = place; meets = 1; x1 = v.x; y1 = v.y; x2 = zero; y2 = zero }
placed_as number place (Place.Along v w) =
    record { number = number; place = place; meets = 2; x1 = v.x; y1 = v.y; x2 = w.x; y2 = w.y }

unfoldable pub placed_of : PlaceAnswer → Placed
placed_of a = placed_as a.number a.place a.meeting
