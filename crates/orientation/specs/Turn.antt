-- The orientation of three points: a determinant over the whole numbers, and the names of its signs.
use Rattle.std.specs.Prelude.{Bool, true, false, zero, suc, ℤ, pos, negsuc, ◌-ℤ◌, ◌*ℤ◌}
use Rattle.orientation.specs.declared.Orientation.{Orientation}
use Rattle.orientation.specs.declared.Orientation.TheVariants.{CounterClockWise, ClockWise, CoLinear}

-- "Sign of (x2-x1)(y3-y1) - (y2-y1)(x3-x1)."
unfoldable pub det : ℤ → ℤ → ℤ → ℤ → ℤ → ℤ → ℤ
det x1 y1 x2 y2 x3 y3 = (x2 -ℤ x1) *ℤ (y3 -ℤ y1) -ℤ (y2 -ℤ y1) *ℤ (x3 -ℤ x1)

-- as in the Rust, above 0 is counter-clockwise
unfoldable pub turn_of : ℤ → Orientation
turn_of (pos zero) = CoLinear
turn_of (pos (suc n)) = CounterClockWise
turn_of (negsuc n) = ClockWise

abbrev pub reversed : Orientation → Orientation
reversed CounterClockWise = ClockWise
reversed ClockWise = CounterClockWise
reversed CoLinear = CoLinear

abbrev pub is_left : Orientation → Bool
is_left CounterClockWise = true
is_left ClockWise = false
is_left CoLinear = false

abbrev pub is_right : Orientation → Bool
is_right CounterClockWise = false
is_right ClockWise = true
is_right CoLinear = false

abbrev pub is_straight : Orientation → Bool
is_straight CounterClockWise = false
is_straight ClockWise = false
is_straight CoLinear = true

-- the Rust's o == p
abbrev pub same_turn : Orientation → Orientation → Bool
same_turn CounterClockWise p = is_left p
same_turn ClockWise p = is_right p
same_turn CoLinear p = is_straight p
