-- A value that equals itself is a number.
use mathlib.Core.Path.{◌≡◌}
use mathlib.Core.Bool.{true, not, false≢true}
use lib.Dec.{T}
use lib.Ieee.{Float, nan, inf, fin, is_nan, eq}

pub equals_itself : (v : Float) → eq v v ≡ true → T (not (is_nan v))
unfolding eq is_nan
equals_itself nan e = absurd (false≢true e)
equals_itself (inf s) e = tt
equals_itself (fin s m k) e = tt
