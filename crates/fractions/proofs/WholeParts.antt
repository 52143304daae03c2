-- The order of n over d and m over e by their whole parts, and by what is left of them where those are the same.
use mathlib.Core.Path.{◌≡◌, sym, ap, ap₂, ◌∙◌}
use Prim.Native.Nat.{ℕ, suc, ◌+◌, ◌-◌, ◌*◌, ◌/◌, ◌%◌, ◌<◌, ◌≤◌}
use native.Mathlib.Nat.{mod-lt, div-add-mod', add-mul, mul_assoc, mul_comm, suc-mul, zero-mul, mul-le-mul_right, mul-lt-mul_of_pos_right}
use native.Mathlib.Omega.{arith}
use lib.IntN.{pos, neg_ℤ}
use Rattle.integers.proofs.Naturals.{<_pos, pos_injective, pos-<}
use Rattle.integers.proofs.Ring.{neg-*ℤ}
use Rattle.fractions.specs.Order.{order}
use Rattle.fractions.specs.Fraction.{ratio_order}
use Rattle.std.specs.declared.cmp.Ordering.{Ordering}
use Rattle.std.specs.declared.cmp.Ordering.TheVariants.{Less, Greater}
use Rattle.fractions.proofs.Orders.{Answer, is_less_lem, is_equal_lem, is_greater, answer, order_negated, nat_less, nat_equal, nat_greater}
use Rattle.fractions.proofs.Ratios.{order_scaled}

-- x is as much above y as v is above u
level : (x y u v : ℕ) → x + u ≡ y + v → order (pos x) (pos y) ≡ order (pos v) (pos u)
level x y u v e = go (answer (pos x) (pos y))
  where
    go : {o : Ordering} → Answer (pos x) (pos y) o → o ≡ order (pos v) (pos u)
    go (is_less_lem h) = let k = <_pos h in nat_less (omega arith)
    go (is_equal_lem h) = let k = pos_injective h in nat_equal (omega arith)
    go (is_greater h) = let k = <_pos h in nat_greater (omega arith)

-- n over d, over the common number d e
parts : (n d e : ℕ) → n * e ≡ n / d * (d * e) + n % d * e
parts n d e = ap (λ (k : ℕ). k * e) (sym (div-add-mod' n d)) ∙ add-mul (n / d * d) (n % d) e ∙ ap (λ (k : ℕ). k + n % d * e) (mul_assoc (n / d) d e)

parts' : (m d e : ℕ) → m * d ≡ m / e * (d * e) + m % e * d
parts' m d e = parts m e d ∙ ap (λ (k : ℕ). m / e * k + m % e * d) (mul_comm e d)

-- the lesser whole part is the lesser, whatever is left
over : (p q c u v : ℕ) → p < q → u < c → p * c + u < q * c + v
over p q c u v h k = omega (arith, mul-le-mul_right {m = suc p} {n = q} c h, suc-mul p c)

-- over the same number
pub same_under : (n m d e : ℕ) → 0 < d → d ≡ e → order (pos n) (pos m) ≡ ratio_order (pos n) d (pos m) e
unfolding ratio_order
same_under n m d e h i = order_scaled (pos n) (pos m) (pos d) (pos-< h) ∙ ap (λ (k : ℕ). order (pos (n * k)) (pos (m * d))) i

-- turned over, the greater is the lesser: s over d against t over e is e over t against d over s
turn_over : (s d t e : ℕ) → ratio_order (pos e) t (pos d) s ≡ ratio_order (pos s) d (pos t) e
unfolding ratio_order
turn_over s d t e = ap₂ (λ (j k : ℕ). order (pos j) (pos k)) (mul_comm e s) (mul_comm d t)

nothing_less : (t d e : ℕ) → 0 < d → order (pos 0) (pos t) ≡ ratio_order (pos 0) d (pos t) e
unfolding ratio_order
nothing_less t d e h = order_scaled (pos 0) (pos t) (pos d) (pos-< h) ∙ rw (zero-mul d, zero-mul e)

nothing_more : (s d e : ℕ) → 0 < e → order (pos s) (pos 0) ≡ ratio_order (pos s) d (pos 0) e
unfolding ratio_order
nothing_more s d e h = order_scaled (pos s) (pos 0) (pos e) (pos-< h) ∙ rw (zero-mul d, zero-mul e)

module _ (n d m e : ℕ) (hd : 0 < d) (he : 0 < e) where
  pub whole_less : n / d < m / e → Less ≡ ratio_order (pos n) d (pos m) e
  unfolding ratio_order
  whole_less h =
      let k : n * e < m * d = rw (parts n d e, parts' m d e) (over (n / d) (m / e) (d * e) (n % d * e) (m % e * d) h (mul-lt-mul_of_pos_right (mod-lt n hd) he)) in
      nat_less k

  pub whole_more : m / e < n / d → Greater ≡ ratio_order (pos n) d (pos m) e
  unfolding ratio_order
  whole_more h =
      let l : m % e * d < d * e = rw (mul_comm e d) at (mul-lt-mul_of_pos_right (mod-lt m he) hd) in
      let k : m * d < n * e = rw (parts n d e, parts' m d e) (over (m / e) (n / d) (d * e) (m % e * d) (n % d * e) h l) in
      nat_greater k

  pub whole_apart : (n / d ≡ m / e → ⊥) → order (pos (n / d)) (pos (m / e)) ≡ ratio_order (pos n) d (pos m) e
  whole_apart h = go (answer (pos (n / d)) (pos (m / e)))
    where
      go : {o : Ordering} → Answer (pos (n / d)) (pos (m / e)) o → o ≡ ratio_order (pos n) d (pos m) e
      go (is_less_lem k) = whole_less (<_pos k)
      go (is_equal_lem k) = absurd (h (pos_injective k))
      go (is_greater k) = whole_more (<_pos k)

  -- the whole parts are the same: what is left decides
  pub left_over : n / d ≡ m / e → ratio_order (pos (n % d)) d (pos (m % e)) e ≡ ratio_order (pos n) d (pos m) e
  unfolding ratio_order
  left_over h =
      sym (level (n * e) (m * d) (m % e * d) (n % d * e) (rw (parts n d e, parts' m d e, h) (omega arith)))

  -- nothing is left of the first
  pub first_whole : n / d ≡ m / e → n % d ≡ 0 → order (pos (n % d)) (pos (m % e)) ≡ ratio_order (pos n) d (pos m) e
  first_whole h i = rw (← i) at (nothing_less (m % e) d e hd) ∙ left_over h

  -- nothing is left of the second
  pub second_whole : n / d ≡ m / e → m % e ≡ 0 → order (pos (n % d)) (pos (m % e)) ≡ ratio_order (pos n) d (pos m) e
  second_whole h i = rw (← i) at (nothing_more (n % d) d e he) ∙ left_over h

  pub turned_over : n / d ≡ m / e → ratio_order (pos e) (m % e) (pos d) (n % d) ≡ ratio_order (pos n) d (pos m) e
  turned_over h = turn_over (n % d) d (m % e) e ∙ left_over h

-- ---- below 0
negated : (n d m e : ℕ) → ratio_order (pos m) e (pos n) d ≡ ratio_order (neg_ℤ (pos n)) d (neg_ℤ (pos m)) e
unfolding ratio_order
negated n d m e = order_negated (pos (m * d)) (pos (n * e)) ∙ ap₂ order (sym (neg-*ℤ (pos n) (pos e))) (sym (neg-*ℤ (pos m) (pos d)))

pub same_under_below : (n m d e : ℕ) → 0 < d → d ≡ e → order (pos m) (pos n) ≡ ratio_order (neg_ℤ (pos n)) d (neg_ℤ (pos m)) e
same_under_below n m d e h i = same_under m n e d (rw i at h) (sym i) ∙ negated n d m e

-- -p and s over d is -n over d, and -q and t over e is -m over e
module _ (n d m e p s q t : ℕ) (hd : 0 < d) (he : 0 < e) (i : p * d ≡ n + s) (j : q * e ≡ m + t) where
  first : n * e + s * e ≡ p * (d * e)
  first = sym (add-mul n s e) ∙ ap (λ (k : ℕ). k * e) (sym i) ∙ mul_assoc p d e

  second : m * d + t * d ≡ q * (d * e)
  second = sym (add-mul m t d) ∙ ap (λ (k : ℕ). k * d) (sym j) ∙ mul_assoc q e d ∙ ap (λ (k : ℕ). q * k) (mul_comm e d)

  floor_less : s < d → q < p → Less ≡ ratio_order (neg_ℤ (pos n)) d (neg_ℤ (pos m)) e
  unfolding ratio_order
  floor_less hs h =
      let k : s * e < d * e = mul-lt-mul_of_pos_right hs he in
      let l : m * d < n * e = omega (arith, first, second, mul-le-mul_right {m = suc q} {n = p} (d * e) h, suc-mul q (d * e)) in
      nat_less l ∙ negated n d m e

  floor_more : t < e → p < q → Greater ≡ ratio_order (neg_ℤ (pos n)) d (neg_ℤ (pos m)) e
  unfolding ratio_order
  floor_more ht h =
      let k : t * d < d * e = rw (mul_comm e d) at (mul-lt-mul_of_pos_right ht hd) in
      let l : n * e < m * d = omega (arith, first, second, mul-le-mul_right {m = suc p} {n = q} (d * e) h, suc-mul p (d * e)) in
      nat_greater l ∙ negated n d m e

  pub floor_apart : s < d → t < e → (p ≡ q → ⊥) → order (pos q) (pos p) ≡ ratio_order (neg_ℤ (pos n)) d (neg_ℤ (pos m)) e
  floor_apart hs ht h = go (answer (pos q) (pos p))
    where
      go : {o : Ordering} → Answer (pos q) (pos p) o → o ≡ ratio_order (neg_ℤ (pos n)) d (neg_ℤ (pos m)) e
      go (is_less_lem k) = floor_less hs (<_pos k)
      go (is_equal_lem k) = absurd (h (sym (pos_injective k)))
      go (is_greater k) = floor_more ht (<_pos k)

  pub floor_over : p ≡ q → ratio_order (pos s) d (pos t) e ≡ ratio_order (neg_ℤ (pos n)) d (neg_ℤ (pos m)) e
  unfolding ratio_order
  floor_over h =
      let f : n * e + s * e ≡ m * d + t * d = first ∙ ap (λ (k : ℕ). k * (d * e)) h ∙ sym second in
      sym (level (m * d) (n * e) (t * d) (s * e) (sym f)) ∙ negated n d m e

-- ---- the floor of -n over d
pub floor_whole : (n d : ℕ) → n % d ≡ 0 → n / d * d ≡ n + n % d
floor_whole n d e = omega (arith, div-add-mod' n d)

pub floor_up : (n d : ℕ) → 0 < d → (n / d + 1) * d ≡ n + (d - n % d)
floor_up n d h = let l = mod-lt n h in omega (arith, div-add-mod' n d, add-mul (n / d) 1 d)

-- it fits: where something is left, d is above 1
pub floor_fits : (n d : ℕ) → 0 < d → 0 < n % d → n / d + 1 ≤ n
floor_fits n d h k =
    let l = mod-lt n h in
    omega (arith, div-add-mod' n d, mul-le-mul_right {m = 2} {n = d} (n / d) (omega arith), mul_comm (n / d) d)
