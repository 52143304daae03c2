-- A binary64 value beside a fraction z / d, in whole numbers. A value is one of the kit's account of IEEE 754: `nan`, an infinity,
-- or `fin s m e`, the number m * 2 ^ e, negative where s is true; 2 ^ e is the fraction up e / down e. Assumes nothing.
use Rattle.std.specs.Prelude.{◌≡◌, Bool, true, false, ℕ, suc, ◌*◌, ◌^◌, ◌<◌, ◌≤◌, T, ℤ, pos, negsuc, neg_ℤ, nat_abs, ◌-ℤ◌, ◌*ℤ◌, Float}
use Rattle.std.specs.Float.{nan, inf, fin, binary64}
use Rattle.std.specs.Float.Ieee.{round, up, down, fits}

-- "each value is the binary64 nearest to the exact fraction, IEEE 754 ties to even": z / d, rounded once
unfoldable pub nearest : ℤ → ℕ → Float
nearest (pos n) d = round binary64 false n d
nearest (negsuc n) d = round binary64 true (suc n) d

abbrev pub signed : Bool → ℕ → ℤ
signed false n = pos n
signed true n = neg_ℤ (pos n)

-- how far the value lies from z / d, times d and times the value's own denominator: a whole number
abbrev pub apart : Bool → ℕ → ℤ → ℤ → ℕ → ℕ
apart s m e z d = nat_abs (signed s (m * up e) *ℤ pos d -ℤ z *ℤ pos (down e))

-- "it lies within 1/2^39 of it, which is stated over whole numbers": times 2 ^ 39 and both denominators
abbrev pub Within39 : Float → ℤ → ℕ → Type 0
Within39 nan z d = ⊥
Within39 (inf s) z d = ⊥
Within39 (fin s m e) z d = 2 ^ 39 * apart s m e z d ≤ d * down e

-- v lies no farther from z / d than w, both distances multiplied out
abbrev pub NoFarther : Float → Float → ℤ → ℕ → Type 0
NoFarther (fin s m e) (fin t n g) z d = apart s m e z d * down g ≤ apart t n g z d * down e
NoFarther (fin s m e) nan z d = Unit
NoFarther (fin s m e) (inf t) z d = Unit
NoFarther nan w z d = ⊥
NoFarther (inf s) w z d = ⊥

-- the value is the whole number z
abbrev pub Exactly : Float → ℤ → Type 0
Exactly nan z = ⊥
Exactly (inf s) z = ⊥
Exactly (fin s m e) z = signed s (m * up e) ≡ z *ℤ pos (down e)

-- "Zero is never negative zero."
abbrev pub NoNegativeZero : Float → Type 0
NoNegativeZero nan = Unit
NoNegativeZero (inf s) = Unit
NoNegativeZero (fin false m e) = Unit
NoNegativeZero (fin true m e) = 0 < m

-- what a value owes to the fraction z / d that it stands for, and to a whole number z
pub record Near (v : Float) (z : ℤ) (d : ℕ) : Type 0 where
  pub is_nearest : v ≡ nearest z d
  pub none_nearer : (w : Float) → T (fits binary64 w) → NoFarther v w z d
  pub within : Within39 v z d
  pub no_negative_zero : NoNegativeZero v

pub record Same (v : Float) (z : ℤ) : Type 0 where
  pub exactly : Exactly v z
  pub no_negative_zero : NoNegativeZero v
