-- A binary64 value, counted in units of 2 ^ -1074, has at most 53 binary digits with zeros after them: `digits`.
-- Assumes nothing.
use mathlib.Core.Path.{◌≡◌, sym, ap, ◌∙◌}
use mathlib.Core.Bool.{Bool, ◌&&◌}
use Prim.Native.Nat.{ℕ, zero, suc, ◌+◌, ◌-◌, ◌*◌, ◌%◌, ◌^◌, ◌<◌, ◌≤◌}
use native.Mathlib.Nat.{mul-one, mul_assoc, zero-mul, not-le_of_lt, lt_of_not-le, le_of_suc-le-suc}
use native.Mathlib.Omega.{arith}
use lib.Dec.{T, eqb, leb, ltb, ltb→lt, leb→le, lit<}
use lib.IntN.{ℤ, pos, negsuc}
use lib.Pow.{pow-add, pow-lt}
use lib.Ieee.{fin, binary64, up, down, fits}
use lib.Ieee.Fits.{and_l, and_r}

pub record Digits (m : ℕ) (e : ℤ) : Type 0 where
  pub first : ℕ
  pub zeros : ℕ
  pub short : first < 2 ^ 53
  pub is : m * up e * 2 ^ 1074 ≡ first * 2 ^ zeros * down e

abbrev Bounds : ℕ → ℤ → Type 0
Bounds m e = (m < 2 ^ 53) × (down e ≤ 2 ^ 1074)

bounds : (s : Bool) (m : ℕ) (e : ℤ) → T (fits binary64 (fin s (suc m) e)) → Bounds (suc m) e
unfolding fits
bounds s m e t =
    let a = eqb (suc m % 2) 1 in
    let b = ltb (suc m) (2 ^ 53) in
    let c = leb (down e) (2 ^ 1074) in
    let t' = and_l (a && b && c) (ltb (suc m * up e) (2 ^ 1024 * down e)) t in
    (ltb→lt (suc m) (2 ^ 53) (and_r a b (and_l (a && b) c t')), leb→le (down e) (2 ^ 1074) (and_r (a && b) c t'))

exponents : (i j : ℕ) → 2 ^ i ≤ 2 ^ j → i ≤ j
exponents i j h = le_of_suc-le-suc (lt_of_not-le (λ (g : suc j ≤ i). not-le_of_lt (pow-lt g) h))

of_bounds : (m : ℕ) (e : ℤ) → Bounds m e → Digits m e
of_bounds m (pos k) h = record {
  first = m;
  zeros = k + 1074;
  short = h.0;
  is = mul_assoc m (2 ^ k) (2 ^ 1074) ∙ ap (λ (x : ℕ). m * x) (sym (pow-add 2 k 1074)) ∙ sym (mul-one (m * 2 ^ (k + 1074)));
}
of_bounds m (negsuc k) h =
    let j : 1074 - suc k + suc k ≡ 1074 = omega (arith, exponents (suc k) 1074 h.1) in
    record {
      first = m;
      zeros = 1074 - suc k;
      short = h.0;
      is = ap (λ (x : ℕ). x * 2 ^ 1074) (mul-one m) ∙ ap (λ (x : ℕ). m * 2 ^ x) (sym j) ∙ ap (λ (x : ℕ). m * x) (pow-add 2 (1074 - suc k) (suc k)) ∙ sym (mul_assoc m (2 ^ (1074 - suc k)) (2 ^ suc k));
    }

pub digits : (s : Bool) (m : ℕ) (e : ℤ) → T (fits binary64 (fin s m e)) → Digits m e
digits s zero e t = record { first = 0; zeros = 0; short = lit< tt; is = rw (zero-mul (up e), zero-mul (down e)) }
digits s (suc m) e t = of_bounds (suc m) e (bounds s m e t)
