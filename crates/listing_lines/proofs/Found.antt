-- A unit that was found goes on as bits, whose number is the unit again.
-- Assumes nothing.
use mathlib.Core.Path.{◌≡◌, ap, ◌∙◌}
use Prim.Native.Nat.{ℕ}
use lib.IntN.{ℤ}
use mir.Syntax.{w64}
use mir.Val.{SFits, to_z, of_z}
use mir.Facts.{to_z-of_z}
use Rattle.units.specs.declared.Between.{Between}
use Rattle.units.specs.Units.{low_of, high_of, units_of}

module _ (b : Between) (x : ℤ) (d : ℕ) (f : SFits w64 x) (e : b ≡ units_of (to_z w64 (of_z w64 x)) d) where
  is : b ≡ units_of x d
  is = e ∙ ap (λ (z : ℤ). units_of z d) (to_z-of_z f)

  pub low_found : SFits w64 b.low → to_z w64 (of_z w64 b.low) ≡ low_of x d
  unfolding units_of
  low_found g = to_z-of_z g ∙ ap (λ (b : Between). b.low) is

  pub high_found : SFits w64 b.high → to_z w64 (of_z w64 b.high) ≡ high_of x d
  unfolding units_of
  high_found g = to_z-of_z g ∙ ap (λ (b : Between). b.high) is
