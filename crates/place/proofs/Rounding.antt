-- The rounded value of a / d in units of 2 ^ -1074, the least binary64 number, where a / d is at most 2 ^ 15: a whole number, `count`.
-- `value`: it is the value of `round`. `count_best`: no binary64 number is nearer. `count_half`: half a step, at most 2 ^ 1035 units, is the most it is off.
-- Assumes nothing.
use mathlib.Core.Path.{◌≡◌, sym, ap, subst, ◌∙◌}
use mathlib.Core.Bool.{Bool}
use mathlib.Core.Logic.{◌⊎◌, inl, inr}
use Prim.Native.Nat.{ℕ, ◌-◌, ◌*◌, ◌/◌, ◌^◌, ◌<◌, ◌≤◌, zero-le}
use native.Mathlib.Nat.{le_trans, le_of_eq, lt_of_le_of_lt, lt_of_lt_of_le, mul-pos, mul_comm, mul_assoc, mul_right_comm, mul-le-mul_right, mul-le-mul_left, le_of_mul-le-mul_right, eq-or-lt_of_le, div-lt_iff_lt-mul, mul-lt-mul_of_pos_right}
use native.Mathlib.Omega.{arith}
use lib.Dec.{lit<}
use lib.Pow.{pow_pos, pow_mono, pow-lt}
use lib.Ieee.{Float, binary64, size, round}
use lib.Ieee.Digits.{size-le}
use lib.Ieee.Exact.{HasValue, units_val}
use lib.Ieee.Fits.{round_is}
use lib.Ieee.Nearest.{closest}
use Rattle.place.proofs.Gap.{gap}
use Rattle.place.proofs.Units.{half, best, leads}

-- ---- laws over plain variables
no_more : (x y n : ℕ) → gap x n ≤ gap y n → n ≤ y → x ≤ y
no_more x y n g l = omega arith

no_gap : (x y : ℕ) → gap x y ≤ gap y y → 2 * gap x y ≡ 0
no_gap x y g = omega arith

-- ---- so many units are one
abbrev pub one : ℕ
one = 2 ^ 1074

module _ (a d : ℕ) (p : 0 < d) (h : a ≤ 2 ^ 15 * d) where
  dropped : ℕ
  dropped = size (a * one / d) - 53

  pub count : ℕ
  unfolding dropped
  count = closest (a * one) (d * 2 ^ dropped) * 2 ^ dropped

  same : count * d ≡ closest (a * one) (d * 2 ^ dropped) * (d * 2 ^ dropped)
  unfolding count
  same = mul_assoc (closest (a * one) (d * 2 ^ dropped)) (2 ^ dropped) d ∙ ap (λ (t : ℕ). closest (a * one) (d * 2 ^ dropped) * t) (mul_comm (2 ^ dropped) d)

  pub count_best : (m j : ℕ) → m < 2 ^ 53 → gap (count * d) (a * one) ≤ gap (m * 2 ^ j * d) (a * one)
  unfolding dropped
  count_best m j l = rw same (best (a * one) d dropped p (leads (a * one) d p) m j l)

  -- 2 ^ 15 is 2 ^ 1089 units
  below : a * one ≤ 1 * 2 ^ 1089 * d
  below = le_trans (mul-le-mul_right one h) (le_of_eq (mul_right_comm (2 ^ 15) d one))

  count_below : count ≤ 1 * 2 ^ 1089
  count_below = le_of_mul-le-mul_right {k = d} (no_more (count * d) (1 * 2 ^ 1089 * d) (a * one) (count_best 1 1089 (lit< tt)) below) p

  pub value : (s : Bool) → HasValue (round binary64 s a d) s count one
  unfolding dropped count
  value s =
      subst (λ (v : Float). HasValue v s count one) (sym (round_is binary64 s a d))
      (units_val binary64 s (closest (a * one) (d * 2 ^ dropped)) dropped (lt_of_le_of_lt count_below (pow-lt {i = 1089} {j = 2098} (lit< tt))))

  -- below 2 ^ 15 at most 1036 digits are dropped
  few : a < 2 ^ 15 * d → dropped ≤ 1036
  unfolding dropped
  few l =
      let n_less : a * one < 2 ^ 1089 * d = lt_of_lt_of_le (mul-lt-mul_of_pos_right l (pow_pos 1074)) (le_of_eq (mul_right_comm (2 ^ 15) d one)) in
      omega (arith, size-le (a * one / d) 1089 ((div-lt_iff_lt-mul p).1 n_less))

  -- and 2 ^ 15 itself is a binary64 value
  pub count_half : 2 * gap (count * d) (a * one) ≤ d * 2 ^ 1036
  count_half = go (eq-or-lt_of_le h)
    where
      go : (a ≡ 2 ^ 15 * d) ⊎ (a < 2 ^ 15 * d) → 2 * gap (count * d) (a * one) ≤ d * 2 ^ 1036
      go (inr l) = rw same (le_trans (half (a * one) (d * 2 ^ dropped) (mul-pos p (pow_pos dropped))) (mul-le-mul_left d (pow_mono (few l))))
      go (inl e) =
          let is : 1 * 2 ^ 1089 * d ≡ a * one = sym (ap (λ (t : ℕ). t * one) e ∙ mul_right_comm (2 ^ 15) d one) in
          le_trans (le_of_eq (no_gap (count * d) (a * one) (rw is at (count_best 1 1089 (lit< tt))))) zero-le
