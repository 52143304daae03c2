-- Euclid's steps lead to the greatest common divisor: `gcd_greatest`. There is only one: `greatest_one`.
use mathlib.Core.Path.{◌≡◌, refl, sym, ap, ◌∙◌, subst}
use mathlib.Core.Bool.{Bool, true, false, cond}
use Prim.Native.Nat.{ℕ, zero, suc, ◌+◌, ◌*◌, ◌/◌, ◌%◌, ◌<◌, ◌∣◌}
use native.Mathlib.Nat.{mod-lt, div-add-mod', add-mul, mul_assoc, mul_comm, dvd_refl, dvd-zero, dvd-mod_iff, dvd_antisymm, dvd-add_iff_right, dvd-mul_right_of_dvd}
use native.Mathlib.Omega.{arith}
use borrow.Author.Tests.{eqb-true, eqb-false}
use lib.Dec.{eqb}
use Rattle.fractions.specs.Divisor.{Greatest, euclid, gcd_of}

pub greatest_one : {a b g h : ℕ} → Greatest a b g → Greatest a b h → g ≡ h
greatest_one {g} {h} p q = dvd_antisymm (q.greatest g p.left p.right) (p.greatest h q.left q.right)

pub greatest_turned : {a b g : ℕ} → Greatest a b g → Greatest b a g
greatest_turned p = record { left = p.right; right = p.left; greatest = λ k h l. p.greatest k l h }

-- what divides b divides a where it divides the remainder of a by b, and only there
step : {a b g : ℕ} → Greatest b (a % b) g → Greatest a b g
step {g} p = record {
  left = (dvd-mod_iff g p.left).0 p.right;
  right = p.left;
  greatest = λ k h l. p.greatest k l ((dvd-mod_iff k l).1 h);
}

none : {a b : ℕ} → b ≡ 0 → Greatest a b a
none {a} {b} e = record { left = dvd_refl a; right = subst (λ (n : ℕ). a ∣ n) (sym e) (dvd-zero a); greatest = λ k h l. h }

euclid_greatest : (n a b : ℕ) → b < n → Greatest a b (euclid n a b)
unfolding euclid
euclid_greatest zero a b h = absurd (omega arith)
euclid_greatest (suc n) a b h = go (eqb b 0) refl (euclid_greatest n b (a % b))
  where
    go : (t : Bool) → eqb b 0 ≡ t → (a % b < n → Greatest b (a % b) (euclid n b (a % b))) → Greatest a b (cond t a (euclid n b (a % b)))
    go true e f = none (eqb-true b 0 e)
    go false e f =
        let p : 0 < b = omega (arith, eqb-false b 0 e) in
        let r : a % b < b = mod-lt a p in
        step (f (omega arith))

pub gcd_greatest : (a b : ℕ) → Greatest a b (gcd_of a b)
unfolding gcd_of
gcd_greatest a b = euclid_greatest (suc b) a b (omega arith)

-- ---- the two ways on of the code
pub gcd_none : (a b : ℕ) → b ≡ 0 → a ≡ gcd_of a b
gcd_none a b e = greatest_one (none e) (gcd_greatest a b)

pub gcd_step : (a b : ℕ) → gcd_of b (a % b) ≡ gcd_of a b
gcd_step a b = greatest_one (step (gcd_greatest b (a % b))) (gcd_greatest a b)

parts : (a b k : ℕ) → a * k ≡ b * k * (a / b) + a % b * k
parts a b k =
    ap (λ (n : ℕ). n * k) (sym (div-add-mod' a b))
    ∙ add-mul (a / b * b) (a % b) k
    ∙ ap (λ (n : ℕ). n + a % b * k) (mul_assoc (a / b) b k ∙ mul_comm (a / b) (b * k))

-- what divides a k and b k divides their divisor's k-fold
euclid_scaled : (n a b k m : ℕ) → b < n → m ∣ a * k → m ∣ b * k → m ∣ euclid n a b * k
unfolding euclid
euclid_scaled zero a b k m h p q = absurd (omega arith)
euclid_scaled (suc n) a b k m h p q = go (eqb b 0) refl (λ l r. euclid_scaled n b (a % b) k m l q r)
  where
    go : (t : Bool) → eqb b 0 ≡ t → (a % b < n → m ∣ a % b * k → m ∣ euclid n b (a % b) * k) → m ∣ cond t a (euclid n b (a % b)) * k
    go true e f = p
    go false e f =
        let l : 0 < b = omega (arith, eqb-false b 0 e) in
        let r : a % b < b = mod-lt a l in
        let s : a * k ≡ b * k * (a / b) + a % b * k = parts a b k in
        f (omega arith) ((dvd-add_iff_right m (dvd-mul_right_of_dvd m q (a / b))).1 (rw s at p))

pub gcd_scaled : (a b k m : ℕ) → m ∣ a * k → m ∣ b * k → m ∣ gcd_of a b * k
unfolding gcd_of
gcd_scaled a b k m p q = euclid_scaled (suc b) a b k m (omega arith) p q
