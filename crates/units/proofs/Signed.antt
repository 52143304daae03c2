-- What the code holds in 64 bits: s is the size of x, and each number fits.
-- Assumes nothing.
use mathlib.Core.Path.{◌≡◌}
use Prim.Native.Nat.{ℕ, zero, suc, ◌+◌, ◌*◌, ◌-◌, ◌/◌, ◌%◌, ◌^◌, ◌<◌, ◌≤◌}
use native.Mathlib.Nat.{div-le_self, mod-lt, lt_of_le_of_lt, le_of_lt, lt-suc_self, not-suc-le-zero, mul-le-mul_left}
use native.Mathlib.Omega.{arith}
use lib.Dec.{lit<}
use lib.IntN.{ℤ, pos, negsuc, nat_abs, ◌+ℤ◌, ◌-ℤ◌}
use lib.Signed.{◌≤ℤ◌, ◌<ℤ◌}
use mir.Syntax.{w64}
use mir.Val.{SFits, to_z, of_z}
use mir.ValLaws.{to_z_pos, to_z-of_z}
use Rattle.integers.proofs.Naturals.{<_pos}
use Rattle.integers.proofs.Linear.{linear, ≡_goal}
use Rattle.units.specs.Units.{Divided}
use Rattle.units.proofs.Division.{divided_above, divided_below}

-- ---- x below 0
one_less : (q : ℕ) → negsuc 0 -ℤ pos q ≡ negsuc q
one_less q = ≡_goal (search linear depth 60 fits 20000) (omega arith)

pub record Below (x : ℤ) (d s : ℕ) : Type 0 where
  pub some : 1 ≤ s
  pub quotient : SFits w64 (pos ((s - 1) / d))
  pub whole : SFits w64 (negsuc 0 -ℤ to_z w64 ((s - 1) / d))
  pub rest : (s - 1) % d ≤ d - 1
  pub is : Divided x d (to_z w64 (of_z w64 (negsuc 0 -ℤ to_z w64 ((s - 1) / d)))) (d - 1 - (s - 1) % d)

pub below : {s : ℕ} (x : ℤ) (d : ℕ) → SFits w64 x → 0 < d → s ≡ nat_abs x → x <ℤ pos 0 → Below x d s
below (pos n) d f h e l = absurd (not-suc-le-zero (<_pos l))
below {s} (negsuc n) d f h e l =
    let m : s - 1 ≡ n = omega arith in
    let few : n / d < 2 ^ 63 = lt_of_le_of_lt (div-le_self n d) f.sfits in
    let there : to_z w64 (n / d) ≡ pos (n / d) = to_z_pos w64 (n / d) few in
    let fits : SFits w64 (negsuc 0 -ℤ to_z w64 (n / d)) = rw (there, one_less (n / d)) (record { sfits = few }) in
    record {
      some = omega arith;
      quotient = rw m (record { sfits = few });
      whole = rw m fits;
      rest = rw m (omega (arith, mod-lt n h));
      is = rw (m, to_z-of_z w64 (negsuc 0 -ℤ to_z w64 (n / d)) fits, there, one_less (n / d)) (divided_below n d h);
    }

-- ---- x at least 0
pub record Above (x : ℤ) (d s : ℕ) : Type 0 where
  pub quotient : SFits w64 (pos (s / d))
  pub is : Divided x d (to_z w64 (s / d)) (s % d)

pub above : {s : ℕ} (x : ℤ) (d : ℕ) → SFits w64 x → 0 < d → s ≡ nat_abs x → pos 0 ≤ℤ x → Above x d s
above (negsuc n) d f h e l = absurd l.le
above (pos n) d f h e l =
    let few : n / d < 2 ^ 63 = lt_of_le_of_lt (div-le_self n d) f.sfits in
    rw e (record { quotient = record { sfits = few }; is = rw (to_z_pos w64 (n / d) few) (divided_above n d h) })

up_one : (n : ℕ) → negsuc (suc n) +ℤ pos 1 ≡ negsuc n
up_one n = ≡_goal (search linear depth 60 fits 20000) (omega arith)

-- ---- one more: where there is a rest, x is larger than its whole part
pub one_more_fits : (x w : ℤ) (d r : ℕ) → SFits w64 x → SFits w64 w → Divided x d w r → 0 < r → SFits w64 (w +ℤ pos 1)
one_more_fits x (negsuc zero) d r f k h l = record { sfits = lit< tt }
one_more_fits x (negsuc (suc n)) d r f k h l = rw (up_one n) (record { sfits = lt_of_le_of_lt (le_of_lt (lt-suc_self n)) k.sfits })
one_more_fits x (pos n) d r f k h l =
    let small : n * d + r < 2 ^ 63 = rw h.is at f.sfits in
    let b = h.rest_below in
    let some : 1 ≤ d = omega arith in
    record { sfits = omega (arith, mul-le-mul_left n some) }
