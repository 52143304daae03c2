-- Whole numbers divided by d, with a rest from 0 up to d: `divided`, and only one way of it.
-- Assumes nothing.
use mathlib.Core.Path.{sym, ap}
use Prim.Native.Nat.{ℕ, zero, suc, ◌-◌, ◌/◌, ◌%◌, ◌<◌}
use native.Mathlib.Nat.{mod-lt, div-add-mod'}
use native.Mathlib.Omega.{arith}
use lib.IntN.{ℤ, pos, negsuc}
use Rattle.integers.proofs.Linear.{linear, ≡_goal}
use Rattle.units.specs.Units.{low_of, Divided}

module _ (n d : ℕ) (h : 0 < d) where
  pub divided_above : Divided (pos n) d (pos (n / d)) (n % d)
  divided_above = record { is = ap pos (sym (div-add-mod' n d)); rest_below = mod-lt n h }

  pub divided_below : Divided (negsuc n) d (negsuc (n / d)) (d - 1 - n % d)
  divided_below =
      let m = mod-lt n h in
      record {
        is = ≡_goal (search linear depth 60 fits 20000) (omega (arith, div-add-mod' n d));
        rest_below = omega arith;
      }

pub divided : (z : ℤ) (d : ℕ) → 0 < d → (rest : ℕ) × Divided z d (low_of z d) rest
unfolding low_of
divided z zero h = absurd (omega arith)
divided (pos n) (suc d) h = (n % suc d, divided_above n (suc d) h)
divided (negsuc n) (suc d) h = (suc d - 1 - n % suc d, divided_below n (suc d) h)
