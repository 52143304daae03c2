-- A list has as many adjacent pairs as members, less one.
use mathlib.Core.Path.{◌≡◌, refl}
use mathlib.Core.List.{List, [], ◌∷◌}
use Prim.Native.Nat.{ℕ, ◌-◌}
use native.Mathlib.Omega.{arith}
use lib.ListN.{length}
use Rattle.sweep.specs.Lists.{adjacent_from, adjacent}

from_length : (i : ℕ) (l : List ℕ) → length (adjacent_from i l) ≡ length l
unfolding adjacent_from
from_length i [] = refl
from_length i (j ∷ l) = omega (arith, from_length j l)

pub adjacent_length : (l : List ℕ) → length (adjacent l) ≡ length l - 1
unfolding adjacent
adjacent_length [] = omega arith
adjacent_length (i ∷ l) = omega (arith, from_length i l)
