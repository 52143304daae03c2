-- The numbers that stand in C for the cases of an answer, and the records for its plain numbers.
use Rattle.std.specs.Prelude.{ℕ, ℤ, pos, negsuc}
use Rattle.orientation.specs.declared.Orientation.{Orientation}
use Rattle.orientation.specs.declared.Orientation.TheVariants.{CounterClockWise, ClockWise, CoLinear}
use Rattle.std.specs.declared.cmp.Ordering.{Ordering}
use Rattle.std.specs.declared.cmp.Ordering.TheVariants.{Less, Equal, Greater}
use Rattle.fractions.specs.declared.Point.{Point}

unfoldable pub turn_number : Orientation → ℤ
turn_number CounterClockWise = pos 1
turn_number ClockWise = negsuc 0
turn_number CoLinear = pos 0

unfoldable pub order_number : Ordering → ℤ
order_number Less = negsuc 0
order_number Equal = pos 0
order_number Greater = pos 1

abbrev pub point_of : ℤ → ℤ → ℕ → Point
point_of x y d = record { x = x; y = y; d = d }
