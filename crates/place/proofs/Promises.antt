-- What is promised of `nearest z d` where z / d is at most 2 ^ 15 in size (`near`), and of a whole number (`same`).
-- Assumes nothing.
use mathlib.Core.Path.{◌≡◌, refl, sym, ap, ap₂, subst, ◌∙◌}
use mathlib.Core.Bool.{Bool, true, false, not}
use mathlib.Core.Logic.{◌⊎◌, inl, inr}
use Prim.Native.Nat.{ℕ, zero, suc, ◌+◌, ◌*◌, ◌^◌, ◌<◌, ◌≤◌, zero-le, suc-le-suc}
use native.Mathlib.Nat.{le_trans, le_of_eq, mul_right_comm, add-mul, mul-one, one-mul, mul-pos, zero-mul, mul-le-mul_right, le_of_mul-le-mul_right}
use native.Mathlib.Omega.{arith}
use lib.Dec.{T, lit<, lit≤}
use lib.IntN.{ℤ, pos, negsuc, nat_abs, ◌*ℤ◌}
use lib.Pow.{pow_pos, pow_mono}
use lib.Ieee.{Float, nan, inf, fin, binary64, up, down, round, fits}
use lib.Ieee.Exact.{HasValue}
use lib.Ieee.Back.{round_whole}
use lib.Ieee.Fits.{down_pos}
use lib.Ieee.Positive.{first_pos}
use Rattle.place.specs.Binary64.{nearest, apart, signed, Within39, NoFarther, Exactly, NoNegativeZero, Near, Same}
use Rattle.place.proofs.Gap.{gap, gap_mul}
use Rattle.place.proofs.Apart.{negative, by_sign, signed_mul, apart_like, apart_unlike}
use Rattle.place.proofs.Values.{Digits, digits}
use Rattle.place.proofs.Rounding.{one, count, count_best, count_half, value}

nearest_is : (z : ℤ) (d : ℕ) → nearest z d ≡ round binary64 (negative z) (nat_abs z) d
unfolding nearest
nearest_is (pos n) d = refl
nearest_is (negsuc n) d = refl

-- ---- laws over plain variables
-- x / E is n units, so its gap to a / d is the same gap in units
scaled : (x E n P a d : ℕ) → x * P ≡ n * E → gap (x * d) (a * E) * P ≡ gap (n * d) (a * P) * E
scaled x E n P a d h =
    let l : x * d * P ≡ n * d * E = mul_right_comm x d P ∙ ap (λ (t : ℕ). t * d) h ∙ mul_right_comm n E d in
    gap_mul (x * d) (a * E) P ∙ ap (λ (t : ℕ). gap t (a * E * P)) l ∙ ap (λ (t : ℕ). gap (n * d * E) t) (mul_right_comm a E P) ∙ sym (gap_mul (n * d) (a * P) E)

summed : (x E n P a d : ℕ) → x * P ≡ n * E → (x * d + a * E) * P ≡ (n * d + a * P) * E
summed x E n P a d h =
    let l : x * d * P ≡ n * d * E = mul_right_comm x d P ∙ ap (λ (t : ℕ). t * d) h ∙ mul_right_comm n E d in
    add-mul (x * d) (a * E) P ∙ omega arith

past_zero : (x n y d : ℕ) → gap x n ≤ gap (0 * 2 ^ 0 * d) n → gap x n ≤ y + n
past_zero x n y d h = omega arith

some_units : (u d n : ℕ) → 0 < d → d ≤ n → gap (u * d) n ≤ gap (1 * 2 ^ 0 * d) n → 0 < u
some_units zero d n p l h = omega (arith, zero-mul d)
some_units (suc u) d n p l h = suc-le-suc zero-le

either : (t s : Bool) → (t ≡ s) ⊎ (t ≡ not s)
either false false = inl refl
either false true = inr refl
either true false = inr refl
either true true = inl refl

-- half of R units, of which 2 ^ 38 times R are one
within_units : (G g d E P R : ℕ) → 0 < P → P ≡ 2 ^ 38 * R → G * P ≡ g * E → 2 * g ≤ d * R → 2 ^ 39 * G ≤ d * E
within_units G g d E P R p e h k =
    let l : d * E * P ≡ 2 ^ 38 * (d * R * E) = ap (λ (t : ℕ). d * E * t) e ∙ omega arith in
    let r : 2 * g * E ≤ d * R * E = mul-le-mul_right E k in
    le_of_mul-le-mul_right {k = P} (omega arith) p

nearer_units : (G H g h E F P : ℕ) → 0 < P → G * P ≡ g * E → H * P ≡ h * F → g ≤ h → G * F ≤ H * E
nearer_units G H g h E F P p x y l =
    let l1 : G * F * P ≡ g * E * F = mul_right_comm G F P ∙ ap (λ (t : ℕ). t * F) x in
    let l2 : H * E * P ≡ h * F * E = mul_right_comm H E P ∙ ap (λ (t : ℕ). t * E) y in
    let r : g * (E * F) ≤ h * (E * F) = mul-le-mul_right (E * F) l in
    le_of_mul-le-mul_right {k = P} (omega arith) p

module _ (z : ℤ) (d : ℕ) (p : 0 < d) (h : nat_abs z ≤ 2 ^ 15 * d) where
  abbrev units : ℕ
  units = count (nat_abs z) d p h

  -- what is to be shown of the rounded value, it is enough to show of any value of so many units
  of_value : (R : Float → Type 0) → ((m : ℕ) (e : ℤ) → m * up e * one ≡ units * down e → R (fin (negative z) m e)) → R (nearest z d)
  of_value R f = subst R (sym (nearest_is z d)) (go (round binary64 (negative z) (nat_abs z) d) (value (nat_abs z) d p h (negative z)))
    where
      go : (v : Float) → HasValue v (negative z) (count (nat_abs z) d p h) one → R v
      go nan v = absurd v
      go (inf t) v = absurd v
      go (fin t m e) v = subst (λ (s : Bool). R (fin s m e)) (sym v.0) (f m e v.1)

  -- its distance, in units
  distance : (m : ℕ) (e : ℤ) → m * up e * one ≡ units * down e → apart (negative z) m e z d * one ≡ gap (units * d) (nat_abs z * one) * down e
  distance m e v = ap (λ (t : ℕ). t * one) (apart_like m e z d) ∙ scaled (m * up e) (down e) units one (nat_abs z) d v

  within : Within39 (nearest z d) z d
  within = of_value (λ (v : Float). Within39 v z d) (λ m e v. within_units (apart (negative z) m e z d) (gap (units * d) (nat_abs z * one)) d (down e) one (2 ^ 1036) (pow_pos 1074) refl (distance m e v) (count_half (nat_abs z) d p h))

  -- another binary64 value: zero lies between where its sign is the other one
  record Other (t : Bool) (n : ℕ) (g : ℤ) : Type 0 where
    reach : ℕ
    is : apart t n g z d * one ≡ reach * down g
    farther : gap (units * d) (nat_abs z * one) ≤ reach

  other : (t : Bool) (n : ℕ) (g : ℤ) → Digits n g → (t ≡ negative z) ⊎ (t ≡ not (negative z)) → Other t n g
  other t n g w (inl e) = record {
    reach = gap (w.first * 2 ^ w.zeros * d) (nat_abs z * one);
    is = rw e (ap (λ (x : ℕ). x * one) (apart_like n g z d) ∙ scaled (n * up g) (down g) (w.first * 2 ^ w.zeros) one (nat_abs z) d w.is);
    farther = count_best (nat_abs z) d p h w.first w.zeros w.short;
  }
  other t n g w (inr e) = record {
    reach = w.first * 2 ^ w.zeros * d + nat_abs z * one;
    is = rw e (ap (λ (x : ℕ). x * one) (apart_unlike n g z d) ∙ summed (n * up g) (down g) (w.first * 2 ^ w.zeros) one (nat_abs z) d w.is);
    farther = past_zero (units * d) (nat_abs z * one) (w.first * 2 ^ w.zeros * d) d (count_best (nat_abs z) d p h 0 0 (lit< tt));
  }

  none_nearer : (w : Float) → T (fits binary64 w) → NoFarther (nearest z d) w z d
  none_nearer nan t = of_value (λ (v : Float). NoFarther v nan z d) (λ m e v. tt)
  none_nearer (inf s) t = of_value (λ (v : Float). NoFarther v (inf s) z d) (λ m e v. tt)
  none_nearer (fin s n g) t =
      let o = other s n g (digits s n g t) (either s (negative z)) in
      of_value (λ (v : Float). NoFarther v (fin s n g) z d)
      (λ m e v. nearer_units (apart (negative z) m e z d) (apart s n g z d) (gap (units * d) (nat_abs z * one)) o.reach (down e) (down g) one (pow_pos 1074) (distance m e v) o.is o.farther)

-- ---- a number below zero has at least one unit
no_negative_zero : (z : ℤ) (d : ℕ) → 0 < d → nat_abs z ≤ 2 ^ 15 * d → d ≤ 2 ^ 1074 → NoNegativeZero (nearest z d)
no_negative_zero (pos n) d p h l = of_value (pos n) d p h NoNegativeZero (λ m e v. tt)
no_negative_zero (negsuc n) d p h l = of_value (negsuc n) d p h NoNegativeZero below
  where
    below : (m : ℕ) (e : ℤ) → m * up e * one ≡ units (negsuc n) d p h * down e → 0 < m
    below m e v =
        let least : d ≤ suc n * one = le_trans l (le_trans (le_of_eq (sym (one-mul one))) (mul-le-mul_right one (suc-le-suc zero-le))) in
        let some : 0 < units (negsuc n) d p h = some_units (count (suc n) d p h) d (suc n * one) p least (count_best (suc n) d p h 1 0 (lit< tt)) in
        first_pos m (up e) (first_pos (m * up e) one (rw v (mul-pos some (down_pos e))))

-- ---- what is promised
pub near : (z : ℤ) (d : ℕ) → 0 < d → d ≤ 2 ^ 53 → nat_abs z ≤ 2 ^ 15 * d → Near (nearest z d) z d
near z d p l h = record {
  is_nearest = refl;
  none_nearer = none_nearer z d p h;
  within = within z d p h;
  no_negative_zero = no_negative_zero z d p h (le_trans l (pow_mono {i = 53} {j = 1074} (lit≤ tt)));
}

exactly : (z : ℤ) → nat_abs z ≤ 2 ^ 15 → Exactly (nearest z 1) z
exactly z h = subst (λ (v : Float). Exactly v z) (sym (nearest_is z 1)) (go (round binary64 (negative z) (nat_abs z) 1) (round_whole binary64 (negative z) (nat_abs z) (le_trans h (pow_mono {i = 15} {j = 53} (lit≤ tt)))))
  where
    go : (v : Float) → HasValue v (negative z) (nat_abs z) 1 → Exactly v z
    go nan v = absurd v
    go (inf t) v = absurd v
    go (fin t m e) v =
        ap₂ signed v.0 (sym (mul-one (m * up e)) ∙ v.1)
        ∙ sym (signed_mul (negative z) (nat_abs z) (down e))
        ∙ ap (λ (x : ℤ). x *ℤ pos (down e)) (sym (by_sign z))

pub same : (z : ℤ) → nat_abs z ≤ 2 ^ 15 → Same (nearest z 1) z
same z h = record { exactly = exactly z h; no_negative_zero = no_negative_zero z 1 (lit< tt) h (pow_mono {i = 0} {j = 1074} (lit≤ tt)) }
