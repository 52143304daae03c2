-- The gap between two natural numbers, `gap a b`, which is |a - b|: how it grows with a factor, and that it is the size of a difference of ℤ.
-- Assumes nothing.
use mathlib.Core.Path.{◌≡◌, ap, ap₂, ◌∙◌}
use mathlib.Core.Bool.{Bool, true, false, cond, not}
use Prim.Native.Nat.{ℕ, zero, suc, ◌+◌, ◌-◌, ◌*◌, ◌≤◌, ◌<◌}
use native.Mathlib.Nat.{mul_comm, add-mul, mul-sub}
use native.Mathlib.Omega.{arith}
use lib.Dec.{T, ltb, ltb→lt, nltb→le}
use lib.IntN.{pos, negsuc, nat_abs, ◌-ℤ◌, +ℤ_idr}

abbrev pub gap : ℕ → ℕ → ℕ
gap a b = a - b + (b - a)

sub_mul : (a b k : ℕ) → (a - b) * k ≡ a * k - b * k
sub_mul a b k = mul_comm (a - b) k ∙ mul-sub k a b ∙ ap₂ (λ (x y : ℕ). x - y) (mul_comm k a) (mul_comm k b)

pub gap_mul : (a b k : ℕ) → gap a b * k ≡ gap (a * k) (b * k)
gap_mul a b k = add-mul (a - b) (b - a) k ∙ ap₂ (λ (x y : ℕ). x + y) (sub_mul a b k) (sub_mul b a k)

pub gap_is : (a b : ℕ) → nat_abs (pos a -ℤ pos b) ≡ gap a b
gap_is a zero = ap nat_abs (+ℤ_idr (pos a)) ∙ omega arith
gap_is a (suc b) = go (ltb a (suc b)) (ltb→lt a (suc b)) (nltb→le a (suc b))
  where
    go : (t : Bool) → (T t → a < suc b) → (T (not t) → suc b ≤ a) → nat_abs (cond t (negsuc (suc b - suc a)) (pos (a - suc b))) ≡ gap a (suc b)
    go true l g = let h = l tt in omega arith
    go false l g = let h = g tt in omega arith
