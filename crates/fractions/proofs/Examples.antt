-- The definitions compute, at the chart's largest numbers too.
use mathlib.Core.Path.{◌≡◌, refl}
use lib.IntN.{pos, negsuc}
use Rattle.fractions.specs.Order.{order}
use Rattle.fractions.specs.Fraction.{ratio_order}
use Rattle.fractions.specs.Divisor.{gcd_of, euclid}
use Rattle.fractions.specs.Turns.{lines_in, lines_of, fib, fib_from}
use Rattle.fractions.specs.Worked.{Worked}
use Rattle.fractions.specs.Point.{common, lowest_of, point_order}
use Rattle.std.specs.declared.cmp.Ordering.TheVariants.{Less}

-- "Crossing at 2, 2 over 3", from 4, 4 over 6
crossing : lowest_of (pos 4) (pos 4) 6 ≡ record { x = pos 2; y = pos 2; d = 3 }
unfolding lowest_of common gcd_of euclid
crossing = refl

largest : lowest_of (negsuc 281474976710655) (pos 123456789012) 8589672450 ≡ record { x = negsuc 140737488355327; y = pos 61728394506; d = 4294836225 }
unfolding lowest_of common gcd_of euclid
largest = refl

-- the same x, the lesser y
lower : point_order (record { x = pos 1; y = pos 2; d = 3 }) (record { x = pos 2; y = pos 5; d = 6 }) ≡ Less
unfolding point_order ratio_order order
lower = refl

worked : Worked
unfolding lines_of lines_in fib fib_from ratio_order order
worked = record { crossings = refl; later = refl; lefts = refl; earlier = refl; longest = refl; beside_itself = refl }
