-- A fraction x / d in whole units.
-- Assumes nothing.
use Rattle.std.specs.Prelude.{◌≡◌, ℕ, zero, suc, ◌/◌, ◌<◌, ℤ, pos, negsuc, neg_ℤ, ◌+ℤ◌, ◌*ℤ◌}
use Rattle.units.specs.declared.Between.{Between}

-- "the greatest whole unit not above the exact value". Over 0 there is no value, and the unit is 0
unfoldable pub low_of : ℤ → ℕ → ℤ
low_of x zero = pos 0
low_of (pos n) (suc d) = pos (n / suc d)
low_of (negsuc n) (suc d) = negsuc (n / suc d)

-- "and the least not below it": the same with both turned round
unfoldable pub high_of : ℤ → ℕ → ℤ
high_of x d = neg_ℤ (low_of (neg_ℤ x) d)

unfoldable pub units_of : ℤ → ℕ → Between
units_of x d = record { low = low_of x d; high = high_of x d }

-- x is so many times d, and a rest below d
pub record Divided (x : ℤ) (d : ℕ) (whole : ℤ) (rest : ℕ) : Type 0 where
  pub is : x ≡ whole *ℤ pos d +ℤ pos rest
  pub rest_below : rest < d
