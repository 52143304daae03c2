-- The size `nat_abs` of sums, products and negations; `Small A z`, a size at most A, as two orders.
-- `small_of lo hi : Small A z`, from neg_ℤ (pos A) ≤ℤ z and z ≤ℤ pos A; back by `small_lo`, `small_hi`; wider by `small_up`.
-- `byte` below is the example. Assumes nothing.
use mathlib.Core.Path.{◌≡◌, refl}
use mathlib.Core.Bool.{Bool, true, false, not, cond}
use Prim.Native.Nat.{ℕ, zero, suc, ◌+◌, ◌-◌, ◌*◌, ◌≤◌, zero-le, suc-le-suc}
use native.Mathlib.Nat.{le_trans, le_refl, le_of_suc-le-suc, not-suc-le-zero}
use native.Mathlib.Omega.{arith}
use lib.Dec.{T, leb→le, le→leb, ltb, ltb→lt, lit≤}
use lib.IntN.{ℤ, pos, negsuc, neg_ℤ, nat_abs, sub_ℕ, ◌+ℤ◌, ◌*ℤ◌}
use lib.Signed.{le_z, ◌≤ℤ◌}
use Rattle.integers.specs.Size.{Small}

cond_ind : (c : Bool) (x y : ℤ) (P : ℤ → Type 0) → (T c → P x) → (T (not c) → P y) → P (cond c x y)
cond_ind true x y P f g = f tt
cond_ind false x y P f g = g tt

abs_sub : (a b : ℕ) → nat_abs (sub_ℕ a b) ≤ a + b
abs_sub a b = cond_ind (ltb a b) (negsuc (b - suc a)) (pos (a - b)) (λ (z : ℤ). nat_abs z ≤ a + b) (λ t. omega (arith, ltb→lt a b t)) (λ t. omega arith)

pub abs-+ : (a b : ℤ) → nat_abs (a +ℤ b) ≤ nat_abs a + nat_abs b
abs-+ (pos a) (pos b) = le_refl (a + b)
abs-+ (pos a) (negsuc b) = abs_sub a (suc b)
abs-+ (negsuc a) (pos b) = le_trans (abs_sub b (suc a)) (omega arith)
abs-+ (negsuc a) (negsuc b) = omega arith

pub abs_neg : (a : ℤ) → nat_abs (neg_ℤ a) ≡ nat_abs a
abs_neg (pos zero) = refl
abs_neg (pos (suc n)) = refl
abs_neg (negsuc n) = refl

pub abs-* : (a b : ℤ) → nat_abs (a *ℤ b) ≡ nat_abs a * nat_abs b
abs-* (pos a) (pos b) = refl
abs-* (pos a) (negsuc b) = abs_neg (pos (a * suc b))
abs-* (negsuc a) (pos b) = abs_neg (pos (suc a * b))
abs-* (negsuc a) (negsuc b) = refl

-- ---- a size as two orders
pub small_of : {A : ℕ} {z : ℤ} → neg_ℤ (pos A) ≤ℤ z → z ≤ℤ pos A → Small A z
small_of {A} {z} h k = record { small = go A z h.le k.le }
  where
    go : (A : ℕ) (z : ℤ) → T (le_z (neg_ℤ (pos A)) z) → T (le_z z (pos A)) → nat_abs z ≤ A
    go A (pos n) h k = leb→le n A k
    go zero (negsuc n) h k = absurd h
    go (suc A) (negsuc n) h k = suc-le-suc (leb→le n A h)

pub small_hi : {A : ℕ} {z : ℤ} → Small A z → z ≤ℤ pos A
small_hi {A} {z = pos n} h = record { le = le→leb n A h.small }
small_hi {A} {z = negsuc n} h = record { le = tt }

pub small_lo : {A : ℕ} {z : ℤ} → Small A z → neg_ℤ (pos A) ≤ℤ z
small_lo {A = zero} {z = pos n} h = record { le = le→leb 0 n zero-le }
small_lo {A = suc A} {z = pos n} h = record { le = tt }
small_lo {A = zero} {z = negsuc n} h = absurd (not-suc-le-zero h.small)
small_lo {A = suc A} {z = negsuc n} h = record { le = le→leb n A (le_of_suc-le-suc h.small) }

pub small_up : {A B : ℕ} {z : ℤ} → A ≤ B → Small A z → Small B z
small_up h s = record { small = le_trans s.small h }

byte : {z : ℤ} → Small 100 z → Small 255 z
byte s = small_up (lit≤ tt) s
