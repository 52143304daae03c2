-- The g-th part of a whole number, rounded toward 0: its size, its sign, and when g times it is the number again.
use mathlib.Core.Path.{◌≡◌, refl, ap, ◌∙◌}
use mathlib.Core.Bool.{cond}
use Prim.Native.Nat.{ℕ, suc, ◌+◌, ◌/◌, ◌≤◌, ◌<◌, ◌^◌, ◌∣◌}
use native.Mathlib.Nat.{div-mul_cancel, div-lt_iff_lt-mul}
use native.Mathlib.Omega.{arith}
use lib.Dec.{leb-suc-zero}
use lib.IntN.{ℤ, pos, negsuc, neg_ℤ, nat_abs, ◌*ℤ◌}
use lib.Signed.{lt_z, quot_z, ◌≤ℤ◌, ◌<ℤ◌}
use Rattle.integers.proofs.Naturals.{<_pos}
use Rattle.integers.proofs.Ring.{neg-*ℤ}
use Rattle.integers.proofs.Sizes.{abs_neg}
use Rattle.fractions.specs.declared.Point.{Point}

-- a number is its size with its sign
pub sign_size : (x : ℤ) → cond (lt_z x (pos 0)) (neg_ℤ (pos (nat_abs x))) (pos (nat_abs x)) ≡ x
sign_size (pos n) = rw (leb-suc-zero n)
sign_size (negsuc n) = refl

pub quot_below : (x : ℤ) (g : ℕ) → x <ℤ pos 0 → neg_ℤ (pos (nat_abs x / g)) ≡ quot_z x (pos g)
quot_below (pos n) g h = absurd (omega (arith, <_pos h))
quot_below (negsuc n) g h = refl

pub quot_not_below : (x : ℤ) (g : ℕ) → pos 0 ≤ℤ x → pos (nat_abs x / g) ≡ quot_z x (pos g)
quot_not_below (pos n) g h = refl
quot_not_below (negsuc n) g h = absurd h.le

pub quot_size : (x : ℤ) (g : ℕ) → nat_abs (quot_z x (pos g)) ≡ nat_abs x / g
quot_size (pos n) g = refl
quot_size (negsuc n) g = abs_neg (pos (suc n / g))

pub quot_times : (x : ℤ) (g : ℕ) → g ∣ nat_abs x → quot_z x (pos g) *ℤ pos g ≡ x
quot_times (pos n) g h = ap pos (div-mul_cancel g h)
quot_times (negsuc n) g h = neg-*ℤ (pos (suc n / g)) (pos g) ∙ ap (λ (k : ℕ). neg_ℤ (pos k)) (div-mul_cancel g h)

-- the half of an i64's size or less: it has room with either sign
pub half : (n g : ℕ) → n ≤ 2 ^ 63 → 1 < g → n / g < 2 ^ 62 + 1
half n g h k = (div-lt_iff_lt-mul {k = g} {x = n} {y = 2 ^ 62 + 1} (omega arith)).1 (omega arith)

-- two points by their numbers
pub same_record : {x x' y y' : ℤ} {d d' : ℕ} → x ≡ x' → y ≡ y' → d ≡ d' → ◌≡◌ {A = Point} (record { x = x; y = y; d = d }) (record { x = x'; y = y'; d = d' })
same_record p q r i = record { x = p i; y = q i; d = r i }
