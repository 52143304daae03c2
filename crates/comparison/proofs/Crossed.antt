-- The order of two fractions by their signs, over 0 and above it; and of x over d and y over e as fractions.
use mathlib.Core.Path.{◌≡◌, refl, sym, ap, ap₂, ◌∙◌}
use mathlib.Core.Bool.{Bool, true, false, cond}
use Prim.Native.Nat.{ℕ, zero, suc, ◌<◌}
use native.Mathlib.Omega.{arith}
use borrow.Author.Tests.{lt-ltb, le-ltb}
use lib.Dec.{ltb, ltb→lt}
use lib.IntN.{ℤ, pos, neg_ℤ, ◌*ℤ◌, *ℤ-zero, zero-*ℤ}
use lib.Signed.{lt_z, lt_z_yes, lt_z_no, ◌<ℤ◌, <ℤ-≤ℤ_trans}
use Rattle.integers.proofs.Naturals.{pos-<, pos-≤}
use Rattle.integers.proofs.Factors.{m*p, *_mono-≤}
use Rattle.fractions.specs.Order.{order, turned}
use Rattle.fractions.specs.Fraction.{above, ratio_order, fraction_order}
use Rattle.std.specs.declared.cmp.Ordering.TheVariants.{Less, Equal, Greater}
use Rattle.fractions.specs.declared.Fraction.{Fraction}
use Rattle.fractions.proofs.Orders.{order_less, order_equal, order_greater, order_turned, order_negated}
use Rattle.fractions.proofs.Ratios.{order_scaled}

-- ---- the number above the line, by its sign t and its size n
abbrev signed : Bool → ℕ → ℤ
signed t n = cond t (neg_ℤ (pos n)) (pos n)

signed_below : (t : Bool) (n : ℕ) → lt_z (signed t n) (pos 0) ≡ true → signed t n ≡ neg_ℤ (pos n)
signed_below true n e = refl
signed_below false n e = absurd (omega (arith, ltb→lt n 0 (rw e tt)))

signed_above : (t : Bool) (n : ℕ) → lt_z (signed t n) (pos 0) ≡ false → signed t n ≡ pos n
signed_above true zero e = refl
signed_above true (suc n) e = let z : ◌≡◌ {A = ℕ} 0 1 = cc in absurd (omega arith)
signed_above false n e = refl

below_test : (n : ℕ) → ltb 0 n ≡ lt_z (neg_ℤ (pos n)) (pos 0)
below_test zero = refl
below_test (suc n) = lt-ltb 0 (suc n) (omega arith)

module _ (f : Fraction) where
  pub test_below : f.negative ≡ true → ltb 0 f.over ≡ lt_z (above f) (pos 0)
  unfolding above
  test_below e = rw e (below_test f.over)

  pub test_above : f.negative ≡ false → false ≡ lt_z (above f) (pos 0)
  unfolding above
  test_above e = rw e (sym (le-ltb f.over 0 (omega arith)))

  with_sign : f.negative ≡ true → above f ≡ neg_ℤ (pos f.over)
  unfolding above
  with_sign e = rw e

  without_sign : f.negative ≡ false → above f ≡ pos f.over
  unfolding above
  without_sign e = rw e

  pub is_below : lt_z (above f) (pos 0) ≡ true → above f ≡ neg_ℤ (pos f.over)
  unfolding above
  is_below e = signed_below f.negative f.over e

  pub is_above : lt_z (above f) (pos 0) ≡ false → above f ≡ pos f.over
  unfolding above
  is_above e = signed_above f.negative f.over e

-- ---- n times that number
module _ (f : Fraction) (n : ℕ) where
  pub times_none : n ≡ 0 → Equal ≡ order (above f *ℤ pos n) (pos 0)
  times_none e = sym (order_equal (rw e (*ℤ-zero (above f))))

  scaled : 0 < n → order (above f) (pos 0) ≡ order (above f *ℤ pos n) (pos 0)
  scaled h = order_scaled (above f) (pos 0) (pos n) (pos-< h) ∙ ap (order (above f *ℤ pos n)) (zero-*ℤ (pos n))

  pub times_below : 0 < n → f.negative ≡ true → order (pos 0) (pos f.over) ≡ order (above f *ℤ pos n) (pos 0)
  times_below h e = order_negated (pos 0) (pos f.over) ∙ ap (λ (z : ℤ). order z (pos 0)) (sym (with_sign f e)) ∙ scaled h

  pub times_above : 0 < n → f.negative ≡ false → order (pos f.over) (pos 0) ≡ order (above f *ℤ pos n) (pos 0)
  times_above h e = ap (λ (z : ℤ). order z (pos 0)) (sym (without_sign f e)) ∙ scaled h

-- ---- two fractions
module _ (a b : Fraction) where
  pub first_over_zero : a.under ≡ 0 → order (above a *ℤ pos b.under) (pos 0) ≡ fraction_order a b
  unfolding fraction_order ratio_order
  first_over_zero e = rw (e, *ℤ-zero)

  pub second_over_zero : b.under ≡ 0 → turned (order (above b *ℤ pos a.under) (pos 0)) ≡ fraction_order a b
  unfolding fraction_order ratio_order above
  second_over_zero e = rw (e, *ℤ-zero) (sym (order_turned (above b *ℤ pos a.under) (pos 0)))

  pub both_below : lt_z (above a) (pos 0) ≡ true → lt_z (above b) (pos 0) ≡ true → ratio_order (neg_ℤ (pos a.over)) a.under (neg_ℤ (pos b.over)) b.under ≡ fraction_order a b
  unfolding fraction_order
  both_below h k = ap₂ (λ (x y : ℤ). ratio_order x a.under y b.under) (sym (is_below a h)) (sym (is_below b k))

  pub none_below : lt_z (above a) (pos 0) ≡ false → lt_z (above b) (pos 0) ≡ false → ratio_order (pos a.over) a.under (pos b.over) b.under ≡ fraction_order a b
  unfolding fraction_order
  none_below h k = ap₂ (λ (x y : ℤ). ratio_order x a.under y b.under) (sym (is_above a h)) (sym (is_above b k))

-- the whole part of one is below 0, that of the other is not
across : (x y : ℤ) (d e : ℕ) → 0 < d → 0 < e → lt_z x (pos 0) ≡ true → lt_z y (pos 0) ≡ false → (x *ℤ pos e) <ℤ (y *ℤ pos d)
across x y d e hd he h k =
    <ℤ-≤ℤ_trans (m*p {a = x} (lt_z_yes (rw h tt)) (pos-< he)) (rw zero-*ℤ at (*_mono-≤ (pos 0) y {c = pos d} (pos-≤ (omega arith)) (lt_z_no (rw k tt))))

module _ (a b : Fraction) (hd : 0 < a.under) (he : 0 < b.under) where
  pub first_below : lt_z (above a) (pos 0) ≡ true → lt_z (above b) (pos 0) ≡ false → Less ≡ fraction_order a b
  unfolding fraction_order ratio_order
  first_below h k = sym (order_less (across (above a) (above b) a.under b.under hd he h k))

  pub second_below : lt_z (above a) (pos 0) ≡ false → lt_z (above b) (pos 0) ≡ true → Greater ≡ fraction_order a b
  unfolding fraction_order ratio_order
  second_below h k = sym (order_greater (across (above b) (above a) b.under a.under he hd k h))

pub of_ratios : (a b : Fraction) {x y : ℤ} {d e : ℕ} → above a ≡ x → a.under ≡ d → above b ≡ y → b.under ≡ e → fraction_order a b ≡ ratio_order x d y e
unfolding fraction_order
of_ratios a b p q r s i = ratio_order (p i) (q i) (r i) (s i)
