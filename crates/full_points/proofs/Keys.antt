-- The key of a point: a lesser one lies to the left, and one point has one key, in lowest terms or not.
use mathlib.Core.Path.{◌≡◌, refl, sym, ap, subst, ◌∙◌}
use mathlib.Core.Logic.{◌⊎◌, inl, inr}
use mathlib.Core.List.{[], ◌∷◌}
use Prim.Native.Nat.{ℕ, zero, suc, ◌+◌, ◌*◌, ◌/◌, ◌%◌, ◌<◌, ◌≤◌}
use native.Mathlib.Nat.{div-add-mod', div-mul-le_self, lt-div-mul-add, mul-add-div_right, mul-div-mul_right, mul-le-mul, le_refl, div-mul_cancel}
use native.Mathlib.Omega.{arith}
use lib.IntN.{ℤ, pos, nat_abs, ◌+ℤ◌, ◌*ℤ◌}
use lib.Signed.{◌≤ℤ◌, ◌<ℤ◌, le_z_yes}
use Rattle.integers.proofs.Factors.{*_cancel-<, *_cancel-≡}
use Rattle.integers.proofs.Identity.{by_ring, terms}
use Rattle.integers.proofs.Naturals.{pos-≤, pos-<, <_pos, natural}
use Rattle.integers.proofs.Order.{<_cert, <→≢}
use Rattle.integers.proofs.Signs.{≤_diff, <_diff, n*n, p*p, p+n, nat}
use Rattle.integers.proofs.Sizes.{abs-*}
use Rattle.fractions.specs.Point.{common, lowest_of}
use Rattle.fractions.specs.declared.Point.{Point}
use Rattle.fractions.proofs.Quotient.{quot_times, same_record}
use Rattle.fractions.proofs.LowestTerms.{is_common, already_lowest}
use Rattle.full_points.specs.declared.Spot.{Spot}
use Rattle.full_points.specs.Spot.{Charted, Marks, key_of}
use Rattle.full_points.proofs.Spots.{whole_part, rest_part}

-- the key by the whole part and the remainder
pub key_parts : (X d : ℕ) → 0 < d → X * 32768 / d ≡ X / d * 32768 + X % d * 32768 / d
key_parts X d up =
    ap (λ (z : ℕ). z / d) (whole (X / d) (X % d) (div-add-mod' X d)) ∙ mul-add-div_right up (X / d * 32768) (X % d * 32768)
  where
    whole : (q r : ℕ) → q * d + r ≡ X → X * 32768 ≡ q * 32768 * d + r * 32768
    whole q r e = omega arith

-- X/d is below Y/e where its 2^15th parts are fewer
fewer : (X d Y e : ℕ) → 0 < d → 0 < e → X * 32768 / d < Y * 32768 / e → X * e < Y * d
fewer X d Y e hd he h =
    let below : X * 32768 < Y * 32768 / e * d = go (X * 32768 / d) (Y * 32768 / e) h (lt-div-mul-add hd) in
    last (Y * 32768 / e) below (div-mul-le_self (Y * 32768) e)
  where
    go : (a b : ℕ) → a < b → X * 32768 < a * d + d → X * 32768 < b * d
    go a b l k = let m : suc a * d ≤ b * d = mul-le-mul l (le_refl d) in omega arith

    cert : (X d Y e b : ℤ) → pos 0 <ℤ e → pos 0 ≤ℤ d → (X *ℤ pos 32768) <ℤ (b *ℤ d) → (b *ℤ e) ≤ℤ (Y *ℤ pos 32768) → (X *ℤ e) <ℤ (Y *ℤ d)
    cert X d Y e b he hd k l =
        *_cancel-< (X *ℤ e) (Y *ℤ d) (pos 32768) (le_z_yes tt)
        (<_cert (X ∷ d ∷ Y ∷ e ∷ b ∷ []) (p+n (p*p (<_diff k) he) (n*n (≤_diff l) hd)) (search terms depth 60 fits 20000) tt)

    last : (b : ℕ) → X * 32768 < b * d → b * e ≤ Y * 32768 → X * e < Y * d
    last b k l = <_pos (cert (pos X) (pos d) (pos Y) (pos e) (pos b) (pos-< he) (nat d) (pos-< k) (pos-≤ l))

pub key_is : (p : Point) {X : ℕ} → pos X ≡ p.x +ℤ pos 32768 *ℤ pos p.d → X * 32768 / p.d ≡ key_of p
unfolding key_of
key_is p e = ap (λ (z : ℤ). nat_abs (z *ℤ pos 32768) / p.d) e

-- ---- keys and the order
module _ (p q : Point) (hp : Charted p.x p.d) (hq : Charted q.x q.d) where
  pub key_less : key_of p < key_of q → (p.x *ℤ pos q.d) <ℤ (q.x *ℤ pos p.d)
  key_less h =
      cert p.x (pos p.d) q.x (pos q.d) (natural hp.from) (natural hq.from)
      (pos-< (fewer _ p.d _ q.d hp.positive hq.positive (rw (key_is p (natural hp.from), key_is q (natural hq.from)) h)))
    where
      cert : (x d y e : ℤ) {X Y : ℤ} → X ≡ x +ℤ pos 32768 *ℤ d → Y ≡ y +ℤ pos 32768 *ℤ e → (X *ℤ e) <ℤ (Y *ℤ d) → (x *ℤ e) <ℤ (y *ℤ d)
      cert x d y e f g h = <_cert (x ∷ d ∷ y ∷ e ∷ []) (<_diff (rw (f, g) at h)) (search terms depth 60 fits 20000) tt

-- every key is below 2^31
pub key_small : (p : Point) → Charted p.x p.d → key_of p < 2147483648
key_small p h =
    let e = natural h.from in
    let w = whole_part h e in
    let r = rest_part h e in
    let k = sym (key_is p e) ∙ key_parts _ p.d h.positive in
    omega arith

-- ---- one point, one key and one spot, in lowest terms or not
abbrev scaled : ℕ → Point → Point
scaled g p = record { x = p.x *ℤ pos g; y = p.y *ℤ pos g; d = p.d * g }

module _ (g : ℕ) (up : 0 < g) where
  key_scaled : (p : Point) → key_of (scaled g p) ≡ key_of p
  unfolding key_of
  key_scaled p =
      ap (λ (z : ℤ). nat_abs z / (p.d * g)) (regroup p.x (pos p.d) (pos g))
      ∙ ap (λ (n : ℕ). n / (p.d * g)) (abs-* ((p.x +ℤ pos 32768 *ℤ pos p.d) *ℤ pos 32768) (pos g))
      ∙ mul-div-mul_right _ p.d up
    where
      regroup : (x d g : ℤ) → (x *ℤ g +ℤ pos 32768 *ℤ (d *ℤ g)) *ℤ pos 32768 ≡ (x +ℤ pos 32768 *ℤ d) *ℤ pos 32768 *ℤ g
      regroup x d g = by_ring (x ∷ d ∷ g ∷ []) (search terms depth 60 fits 20000) tt

  marks_scaled : (m : Spot) (p : Point) → Marks m (scaled g p) → Marks m p
  marks_scaled m p k = record {
    positive = positive p.d k.positive;
    along = less (pos (m.wx * m.d + m.rx)) p.x (pos p.d) (pos m.d) k.along;
    up = less (pos (m.wy * m.d + m.ry)) p.y (pos p.d) (pos m.d) k.up;
  }
    where
      positive : (d : ℕ) → 0 < d * g → 0 < d
      positive zero h = absurd (omega arith)
      positive (suc d) h = omega arith

      less : (W x d D : ℤ) → W *ℤ (d *ℤ pos g) ≡ (x *ℤ pos g +ℤ pos 32768 *ℤ (d *ℤ pos g)) *ℤ D → W *ℤ d ≡ (x +ℤ pos 32768 *ℤ d) *ℤ D
      less W x d D e = *_cancel-≡ (W *ℤ d) ((x +ℤ pos 32768 *ℤ d) *ℤ D) (pos g) (λ z. <→≢ (pos-< up) (sym z)) (left W d (pos g) ∙ e ∙ right x d (pos g) D)
        where
          left : (W d g : ℤ) → W *ℤ d *ℤ g ≡ W *ℤ (d *ℤ g)
          left W d g = by_ring (W ∷ d ∷ g ∷ []) (search terms depth 60 fits 20000) tt

          right : (x d g D : ℤ) → (x *ℤ g +ℤ pos 32768 *ℤ (d *ℤ g)) *ℤ D ≡ (x +ℤ pos 32768 *ℤ d) *ℤ D *ℤ g
          right x d g D = by_ring (x ∷ d ∷ g ∷ D ∷ []) (search terms depth 60 fits 20000) tt

zero_or_not : (n : ℕ) → (n ≡ 0) ⊎ (0 < n)
zero_or_not zero = inl refl
zero_or_not (suc n) = inr (omega arith)

-- what holds of both, if it passes from a point to the same with a factor taken out
module _ (p : Point) (P : Point → Type 0) (out : (g : ℕ) → 0 < g → (q : Point) → P (scaled g q) → P q) where
  pub lowest_too : P p → P (lowest_of p.x p.y p.d)
  lowest_too h = go (zero_or_not (common p.x p.y p.d))
    where
      go : (common p.x p.y p.d ≡ 0) ⊎ (0 < common p.x p.y p.d) → P (lowest_of p.x p.y p.d)
      go (inl e) = subst P (already_lowest p.x p.y p.d (omega arith)) h
      go (inr k) =
          unfold lowest_of in
          let c = is_common p.x p.y p.d in
          out (common p.x p.y p.d) k _
          (subst P (same_record (sym (quot_times p.x _ c.divides_x)) (sym (quot_times p.y _ c.divides_y)) (sym (div-mul_cancel _ c.divides_d))) h)

pub key_lowest : (p : Point) → key_of p ≡ key_of (lowest_of p.x p.y p.d)
key_lowest p = lowest_too p (λ q. key_of p ≡ key_of q) (λ g up q e. e ∙ key_scaled g up q) refl

pub marks_lowest : (m : Spot) (p : Point) → Marks m p → Marks m (lowest_of p.x p.y p.d)
marks_lowest m p = lowest_too p (Marks m) (λ g up q. marks_scaled g up m q)
