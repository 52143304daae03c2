-- Units on both sides of zero, of fractions and of whole numbers, computed.
-- Assumes nothing.
use mathlib.Core.Path.{◌≡◌, refl}
use lib.IntN.{ℤ, pos, negsuc}
use Rattle.units.specs.declared.Between.{Between}
use Rattle.units.specs.Units.{low_of, high_of, units_of}

abbrev both : ℤ → ℤ → Between
both l h = record { low = l; high = h }

record Table : Type 0 where
  -- "A crossing at 1480.5"
  half : units_of (pos 2961) 2 ≡ both (pos 1480) (pos 1481)
  -- "-3/2 gives -2 and -1"
  negative_half : units_of (negsuc 2) 2 ≡ both (negsuc 1) (negsuc 0)
  third : units_of (pos 1) 3 ≡ both (pos 0) (pos 1)
  negative_third : units_of (negsuc 0) 3 ≡ both (negsuc 0) (pos 0)
  zero : units_of (pos 0) 7 ≡ both (pos 0) (pos 0)
  whole : units_of (negsuc 5) 3 ≡ both (negsuc 1) (negsuc 1)
  farthest : units_of (negsuc 32766) 1 ≡ both (negsuc 32766) (negsuc 32766)
  over_none : units_of (negsuc 4) 0 ≡ both (pos 0) (pos 0)

table : Table
unfolding low_of high_of units_of
table = record {
  half = refl;
  negative_half = refl;
  third = refl;
  negative_third = refl;
  zero = refl;
  whole = refl;
  farthest = refl;
  over_none = refl;
}
