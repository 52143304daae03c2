-- A result's numbers are ten.
-- Assumes nothing.
use mathlib.Core.Path.{◌≡◌, refl}
use Prim.Native.Nat.{suc}
use lib.ListN.{length}
use Rattle.std.specs.Prelude.{Option, None, Some}
use Rattle.fractions.specs.declared.Point.{Point}
use Rattle.bentley_ottmann.specs.declared.Swept.{Swept}
use Rattle.batch.specs.Numbers.{last_numbers, numbers_of}

pub numbers_ten : (s : Swept) → length (numbers_of s) ≡ 10
unfolding numbers_of
numbers_ten s = go s.last
  where
    go : (l : Option Point) → suc (suc (suc (suc (suc (suc (length (last_numbers l))))))) ≡ 10
    go None = refl
    go (Some p) = refl
