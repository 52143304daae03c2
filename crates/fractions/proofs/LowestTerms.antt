-- A point divided by the greatest common divisor of its three numbers.
use mathlib.Core.Path.{◌≡◌, sym, ap, ◌∙◌, subst}
use mathlib.Core.List.{[], ◌∷◌}
use Prim.Native.Nat.{ℕ, zero, suc, ◌*◌, ◌^◌, ◌<◌, ◌≤◌, ◌∣◌}
use native.Mathlib.Nat.{lt_of_le_of_lt, zero-mul, one-mul, div-zero, div-le_self, div-mul_cancel, dvd_trans, dvd_antisymm, dvd-mul_left, dvd-mul_right, mul-dvd-mul_right, dvd_of_mul-dvd-mul_right, pos_of_dvd_of_pos, eq-one_of_dvd-one, eq-zero_of_zero-dvd}
use native.Mathlib.Omega.{arith}
use lib.Dec.{lit<}
use lib.IntN.{ℤ, pos, negsuc, nat_abs, ◌*ℤ◌}
use lib.Signed.{quot_z}
use Rattle.integers.proofs.Identity.{by_ring, terms}
use Rattle.integers.proofs.Factors.{*_cancel-≡}
use Rattle.integers.proofs.Sizes.{abs-*}
use Rattle.integers.proofs.Naturals.{pos_injective}
use Rattle.integers.proofs.Ring.{*ℤ_idr}
use Rattle.fractions.specs.Divisor.{gcd_of}
use Rattle.fractions.specs.Point.{Lowest, Bounded, point_order, common, lowest_of, whole_of}
use Rattle.std.specs.declared.cmp.Ordering.TheVariants.{Equal}
use Rattle.fractions.specs.declared.Point.{Point}
use Rattle.fractions.proofs.Euclid.{gcd_greatest, gcd_scaled}
use Rattle.fractions.proofs.Quotient.{quot_times, quot_size, same_record}
use Rattle.fractions.proofs.Points.{Places, same, places, placed}

-- g divides all three, and every number that divides all three divides g
pub record Common (x y : ℤ) (d g : ℕ) : Type 0 where
  pub divides_x : g ∣ nat_abs x
  pub divides_y : g ∣ nat_abs y
  pub divides_d : g ∣ d
  pub greatest : (k : ℕ) → k ∣ nat_abs x → k ∣ nat_abs y → k ∣ d → k ∣ g

pub is_common : (x y : ℤ) (d : ℕ) → Common x y d (common x y d)
unfolding common
is_common x y d =
    let p = gcd_greatest (nat_abs x) (nat_abs y) in
    let q = gcd_greatest (gcd_of (nat_abs x) (nat_abs y)) d in
    record {
      divides_x = dvd_trans _ q.left p.left;
      divides_y = dvd_trans _ q.left p.right;
      divides_d = q.right;
      greatest = λ k h i j. q.greatest k (p.greatest k h i) j;
    }

-- by 0 or 1: 0 divides only 0
small_quot : (x : ℤ) (g : ℕ) → g < 2 → g ∣ nat_abs x → x ≡ quot_z x (pos g)
small_quot (pos n) zero h k = ap pos (eq-zero_of_zero-dvd k ∙ sym (div-zero n))
small_quot (negsuc n) zero h k = absurd (omega (arith, eq-zero_of_zero-dvd k))
small_quot x (suc zero) h k = sym (sym (*ℤ_idr (quot_z x (pos 1))) ∙ quot_times x 1 k)
small_quot x (suc (suc g)) h k = absurd (omega arith)

pub already_lowest : (x y : ℤ) (d : ℕ) → common x y d < 2 → ◌≡◌ {A = Point} (record { x = x; y = y; d = d }) (lowest_of x y d)
unfolding lowest_of
already_lowest x y d h =
    let c = is_common x y d in
    same_record (small_quot x (common x y d) h c.divides_x) (small_quot y (common x y d) h c.divides_y) (ap nat_abs (small_quot (pos d) (common x y d) h c.divides_d))

shuffle : (n d g : ℤ) → n *ℤ (d *ℤ g) ≡ n *ℤ g *ℤ d
shuffle n d g = by_ring (n ∷ d ∷ g ∷ []) (search terms depth 60 fits 20000) tt

left_positive : (a b : ℕ) → 0 < a * b → 0 < a
left_positive zero b h = absurd (omega (arith, rw zero-mul at h))
left_positive (suc a) b h = omega arith

-- ---- the point in lowest terms
module _ (x y : ℤ) (d : ℕ) where
  g : ℕ
  g = common x y d

  found : Common x y d g
  unfolding g
  found = is_common x y d

  x_again : (lowest_of x y d).x *ℤ pos g ≡ x
  unfolding lowest_of g
  x_again = quot_times x (common x y d) (is_common x y d).divides_x

  y_again : (lowest_of x y d).y *ℤ pos g ≡ y
  unfolding lowest_of g
  y_again = quot_times y (common x y d) (is_common x y d).divides_y

  d_again : (lowest_of x y d).d * g ≡ d
  unfolding lowest_of g
  d_again = div-mul_cancel (common x y d) (is_common x y d).divides_d

  -- it is the same point
  pub lowest_same : point_order (lowest_of x y d) (record { x = x; y = y; d = d }) ≡ Equal
  lowest_same = placed (same (turn (lowest_of x y d).x x x_again) (turn (lowest_of x y d).y y y_again))
    where
      -- n d = n (d' g) = (n g) d'
      turn : (n m : ℤ) → n *ℤ pos g ≡ m → n *ℤ pos d ≡ m *ℤ pos (lowest_of x y d).d
      turn n m e = ap (λ (k : ℕ). n *ℤ pos k) (sym d_again) ∙ shuffle n (pos (lowest_of x y d).d) (pos g) ∙ ap (λ (z : ℤ). z *ℤ pos (lowest_of x y d).d) e

  pub lowest_lowest : 0 < d → Lowest (lowest_of x y d)
  lowest_lowest h =
      record {
        positive = left_positive (lowest_of x y d).d g (rw d_again h);
        coprime = λ k p q r. eq-one_of_dvd-one (dvd_of_mul-dvd-mul_right k (pos_of_dvd_of_pos found.divides_d h) (rw one-mul (all k p q r)));
      }
    where
      times : (k : ℕ) (n m : ℤ) → n *ℤ pos g ≡ m → k ∣ nat_abs n → k * g ∣ nat_abs m
      times k n m e p = rw (sym e, abs-* n (pos g)) (mul-dvd-mul_right k p g)

      all : (k : ℕ) → k ∣ nat_abs (lowest_of x y d).x → k ∣ nat_abs (lowest_of x y d).y → k ∣ (lowest_of x y d).d → k * g ∣ g
      all k p q r = found.greatest (k * g) (times k (lowest_of x y d).x x x_again p) (times k (lowest_of x y d).y y y_again q) (rw d_again at (mul-dvd-mul_right k r g))

  -- no number grows
  pub lowest_bounded : Bounded (record { x = x; y = y; d = d }) → Bounded (lowest_of x y d)
  unfolding lowest_of
  lowest_bounded b =
      record {
        d_small = lt_of_le_of_lt (div-le_self d (common x y d)) b.d_small;
        x_small = rw (quot_size x (common x y d)) (lt_of_le_of_lt (div-le_self (nat_abs x) (common x y d)) b.x_small);
        y_small = rw (quot_size y (common x y d)) (lt_of_le_of_lt (div-le_self (nat_abs y) (common x y d)) b.y_small);
      }

-- ---- a point of whole coordinates
pub whole_lowest : (x y : ℤ) → Lowest (whole_of x y)
whole_lowest x y = record { positive = omega arith; coprime = λ k p q r. eq-one_of_dvd-one r }

pub whole_bounded : (x y : ℤ) → nat_abs x ≤ 2 ^ 15 → nat_abs y ≤ 2 ^ 15 → Bounded (whole_of x y)
whole_bounded x y h k = record { d_small = lit< tt; x_small = omega arith; y_small = omega arith }

-- ---- one point, one record
-- what divides k times each of the three divides k times their divisor
common_scaled : (x y : ℤ) (d k m : ℕ) → m ∣ nat_abs x * k → m ∣ nat_abs y * k → m ∣ d * k → m ∣ common x y d * k
unfolding common
common_scaled x y d k m h i j = gcd_scaled (gcd_of (nat_abs x) (nat_abs y)) d k m (gcd_scaled (nat_abs x) (nat_abs y) k m h i) j

-- so p's number below the line divides q's, where both are one point
divides : (p q : Point) → Lowest p → nat_abs p.x * q.d ≡ nat_abs q.x * p.d → nat_abs p.y * q.d ≡ nat_abs q.y * p.d → p.d ∣ q.d
divides p q l e f =
    let c = is_common p.x p.y p.d in
    let one : common p.x p.y p.d ≡ 1 = l.coprime _ c.divides_x c.divides_y c.divides_d in
    rw (one, one-mul) at
    (common_scaled p.x p.y p.d q.d p.d
    (rw e (dvd-mul_left p.d (nat_abs q.x))) (rw f (dvd-mul_left p.d (nat_abs q.y))) (dvd-mul_right p.d q.d))

sizes : (x y : ℤ) (d e : ℕ) → x *ℤ pos e ≡ y *ℤ pos d → nat_abs x * e ≡ nat_abs y * d
sizes x y d e h = sym (abs-* x (pos e)) ∙ ap nat_abs h ∙ abs-* y (pos d)

pub one_record : (p q : Point) → Lowest p → Lowest q → point_order p q ≡ Equal → p ≡ q
one_record p q lp lq h = go (subst (Places p q) h (places p q))
  where
    cancel : (x y : ℤ) (d e : ℕ) → 0 < d → d ≡ e → x *ℤ pos e ≡ y *ℤ pos d → x ≡ y
    cancel x y d e k t h = *_cancel-≡ x y (pos e) (λ z. absurd (omega (arith, pos_injective z))) (rw t at h)

    go : Places p q Equal → p ≡ q
    go (same e f) =
        let a = sizes p.x q.x p.d q.d e in
        let b = sizes p.y q.y p.d q.d f in
        let t : p.d ≡ q.d = dvd_antisymm (divides p q lp a b) (divides q p lq (sym a) (sym b)) in
        same_record (cancel _ _ _ _ lp.positive t e) (cancel _ _ _ _ lp.positive t f) t
