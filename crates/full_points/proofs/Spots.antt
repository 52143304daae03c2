-- Which spot a point has, and when an end stands there.
use mathlib.Core.Path.{◌≡◌, refl, sym, ap, subst, ◌∙◌}
use mathlib.Core.Bool.{Bool, true, false}
use mathlib.Core.List.{[], ◌∷◌}
use Prim.Native.Nat.{ℕ, ◌+◌, ◌*◌, ◌/◌, ◌%◌, ◌<◌}
use native.Mathlib.Nat.{div-add-mod', mod-lt, div-lt_iff_lt-mul, mul-div_cancel, mul-add-div_right, div-eq_of_lt, mul-mod_left, mul-add-mod_self_right, mod-eq_of_lt}
use native.Mathlib.Omega.{arith}
use lib.Dec.{eqb}
use lib.IntN.{ℤ, pos, nat_abs, ◌+ℤ◌, ◌-ℤ◌, ◌*ℤ◌}
use lib.Signed.{◌≤ℤ◌, ◌<ℤ◌}
use mir.Syntax.{w16}
use mir.Val.{SFits}
use borrow.Author.Tests.{eqb-true, eq-eqb, ne_eqb}
use Rattle.integers.specs.Size.{Small}
use Rattle.integers.proofs.Identity.{by_ring, terms}
use Rattle.integers.proofs.Machine.{steps, m_range, m_bound}
use Rattle.integers.proofs.Naturals.{pos-<, <_pos, pos_injective, natural}
use Rattle.integers.proofs.Order.{≤_cert, <_cert, ≡_cert}
use Rattle.integers.proofs.Ranges.{range_lo, range_hi}
use Rattle.integers.proofs.Signs.{≤_diff, <_diff, ≡_diff}
use Rattle.fractions.specs.Order.{order, and_then}
use Rattle.fractions.specs.Fraction.{ratio_order}
use Rattle.fractions.specs.Point.{point_order, whole_of}
use Rattle.std.specs.declared.cmp.Ordering.{Ordering}
use Rattle.std.specs.declared.cmp.Ordering.TheVariants.{Less, Equal, Greater}
use Rattle.fractions.specs.declared.Point.{Point}
use Rattle.fractions.proofs.Orders.{Answer, is_less_lem, is_equal_lem, is_greater, answer}
use Rattle.fractions.proofs.Ratios.{order_scaled}
use Rattle.line_segment.specs.declared.LineSegment.{LineSegment}
use Rattle.line_segment.specs.Geometry.{run, rise}
use Rattle.sweep.specs.Ported.{is_equal}
use Rattle.sweep_geometry.proofs.Heights.{order_diff}
use Rattle.full_points.specs.declared.Spot.{Spot}
use Rattle.full_points.specs.Spot.{Charted, ChartPoint, Fair, Marks}

-- ---- coordinates of ends
pub from_least : {x : ℤ} → SFits w16 x → pos 0 ≤ℤ (x +ℤ pos 32768)
from_least {x} h = ≤_cert (x ∷ []) (≤_diff (range_lo h)) (search terms depth 60 fits 20000) tt

-- a size read off the code, of a number at least 0
pub natural_of : {n : ℕ} {z : ℤ} → n ≡ nat_abs z → pos 0 ≤ℤ z → pos n ≡ z
natural_of e h = ap (λ (n : ℕ). pos n) e ∙ natural h

pub up_to_most : {x : ℤ} → SFits w16 x → (x +ℤ pos 32768) <ℤ pos 65536
up_to_most {x} h = <_cert (x ∷ []) (<_diff (range_hi h)) (search terms depth 60 fits 20000) tt

module _ (s : LineSegment) where
  pub run_small : SFits w16 s.max.x → SFits w16 s.min.x → Small 65536 (run s)
  unfolding run
  run_small h k = m_bound (search (steps, m_range) depth 60 fits 20000) tt

  pub rise_small : SFits w16 s.max.y → SFits w16 s.min.y → Small 65536 (rise s)
  unfolding rise
  rise_small h k = m_bound (search (steps, m_range) depth 60 fits 20000) tt

-- ---- the spot of a point
module _ {x : ℤ} {d X : ℕ} (h : Charted x d) (e : pos X ≡ x +ℤ pos 32768 *ℤ pos d) where
  pub whole_part : X / d < 65536
  whole_part = (div-lt_iff_lt-mul h.positive).1 (<_pos (subst (λ (z : ℤ). z <ℤ pos (65536 * d)) (sym e) h.upto))

  -- .. and the whole 2^15th parts of the remainder
  pub rest_part : X % d * 32768 / d < 32768
  rest_part = (div-lt_iff_lt-mul h.positive).1 (let r : X % d < d = mod-lt X h.positive in omega arith)

  both_parts : pos (X / d * d + X % d) *ℤ pos d ≡ (x +ℤ pos 32768 *ℤ pos d) *ℤ pos d
  both_parts = ap (λ (n : ℕ). pos n *ℤ pos d) (div-add-mod' X d) ∙ ap (λ (z : ℤ). z *ℤ pos d) e

module _ (p : Point) (h : ChartPoint p) {X Y : ℕ} (e : pos X ≡ p.x +ℤ pos 32768 *ℤ pos p.d) (f : pos Y ≡ p.y +ℤ pos 32768 *ℤ pos p.d) where
  abbrev spot : Spot
  spot = record { wx = X / p.d; rx = X % p.d; wy = Y / p.d; ry = Y % p.d; d = p.d }

  pub spot_fair : Fair spot
  spot_fair = record {
    wide = whole_part h.along e;
    tall = whole_part h.up f;
    rest_x = mod-lt X h.along.positive;
    rest_y = mod-lt Y h.along.positive;
    small = h.along.small;
  }

  pub spot_marks : Marks spot p
  spot_marks = record { positive = h.along.positive; along = both_parts h.along e; up = both_parts h.up f }

-- ---- the spot of an end
pub inside : (z : ℤ) {n : ℕ} → SFits w16 z → pos n ≡ z +ℤ pos 32768 → n < 65536
inside z h g = <_pos (subst (λ (z : ℤ). z <ℤ pos 65536) (sym g) (up_to_most h))

module _ (x y : ℤ) {X Y : ℕ} (hx : SFits w16 x) (hy : SFits w16 y) (e : pos X ≡ x +ℤ pos 32768) (f : pos Y ≡ y +ℤ pos 32768) where
  abbrev end_spot : Spot
  end_spot = record { wx = X; rx = 0; wy = Y; ry = 0; d = 1 }

  over_one : (z : ℤ) {n : ℕ} → pos n ≡ z +ℤ pos 32768 → pos (n * 1 + 0) *ℤ pos 1 ≡ (z +ℤ pos 32768 *ℤ pos 1) *ℤ pos 1
  over_one z {n} g =
      ap (λ (m : ℕ). pos m) (omega arith)
      ∙ g
      ∙ by_ring (z ∷ []) (search terms depth 60 fits 20000) tt

  pub end_fair : Fair end_spot
  end_fair = record { wide = inside x hx e; tall = inside y hy f; rest_x = omega arith; rest_y = omega arith; small = omega arith }

  pub end_marks : Marks end_spot (whole_of x y)
  end_marks = record { positive = omega arith; along = over_one x e; up = over_one y f }

-- ---- an end at a spot
equal_as : (a b : ℕ) (t : Bool) → (t ≡ true → a ≡ b) → (a ≡ b → t ≡ true) → t ≡ is_equal (order (pos a) (pos b))
equal_as a b t f g = go t f g (answer (pos a) (pos b))
  where
    go : {o : Ordering} (t : Bool) → (t ≡ true → a ≡ b) → (a ≡ b → t ≡ true) → Answer (pos a) (pos b) o → t ≡ is_equal o
    go true f g (is_less_lem h) = absurd (omega (arith, <_pos h, f refl))
    go true f g (is_equal_lem e) = refl
    go true f g (is_greater h) = absurd (omega (arith, <_pos h, f refl))
    go false f g (is_less_lem h) = refl
    go false f g (is_equal_lem e) = g (pos_injective e)
    go false f g (is_greater h) = refl

module _ (x : ℤ) (w r X d : ℕ) (e : pos X ≡ x +ℤ pos 32768) (h : r < d) where
  parts_one : X * d ≡ w * d + r → (w ≡ X) × (r ≡ 0)
  parts_one g = (
    let a : X ≡ w + r / d = sym (mul-div_cancel X (omega arith)) ∙ ap (λ (z : ℕ). z / d) g ∙ mul-add-div_right (omega arith) w r in
        let b : r / d ≡ 0 = div-eq_of_lt h in omega arith,
    sym (mod-eq_of_lt h) ∙ sym (mul-add-mod_self_right w d r) ∙ ap (λ (z : ℕ). z % d) (sym g) ∙ mul-mod_left X d,
  )

  as_naturals : {t : Bool} → t ≡ is_equal (order (pos (X * d)) (pos (w * d + r))) → t ≡ is_equal (order ((x +ℤ pos 32768) *ℤ pos d) (pos (w * d + r)))
  as_naturals g = g ∙ ap (λ (z : ℤ). is_equal (order (z *ℤ pos d) (pos (w * d + r)))) e

  pub whole_part_is : r ≡ 0 → eqb w X ≡ is_equal (order ((x +ℤ pos 32768) *ℤ pos d) (pos (w * d + r)))
  whole_part_is z =
      as_naturals
      (equal_as (X * d) (w * d + r) (eqb w X) (λ t. sym (ap (λ (n : ℕ). n * d) (eqb-true w X t)) ∙ omega arith) (λ g. eq-eqb w X (parts_one g).0))

  pub rest_is : ¬ (r ≡ 0) → eqb r 0 ≡ is_equal (order ((x +ℤ pos 32768) *ℤ pos d) (pos (w * d + r)))
  rest_is z = ne_eqb r 0 z ∙ as_naturals (equal_as (X * d) (w * d + r) false (λ t. absurd (let n : ◌≡◌ {A = ℕ} 0 1 = cc in omega arith)) (λ g. absurd (z (parts_one g).1)))

-- a coordinate against that of a point that the spot marks
coordinate : (x W u : ℤ) (d D : ℕ) → 0 < d → 0 < D → W *ℤ pos D ≡ (u +ℤ pos 32768 *ℤ pos D) *ℤ pos d
    → order ((x +ℤ pos 32768) *ℤ pos d) W ≡ ratio_order x 1 u D
unfolding ratio_order
coordinate x W u d D hd hD e =
    order_scaled ((x +ℤ pos 32768) *ℤ pos d) W (pos D) (pos-< hD)
    ∙ order_diff _ _
    ∙ ap (order (pos 0)) (apart x W u (pos d) (pos D) e)
    ∙ sym (order_diff _ _)
    ∙ sym (order_scaled (x *ℤ pos D) (u *ℤ pos 1) (pos d) (pos-< hd))
  where
    apart : (x W u d D : ℤ) → W *ℤ D ≡ (u +ℤ pos 32768 *ℤ D) *ℤ d → W *ℤ D -ℤ (x +ℤ pos 32768) *ℤ d *ℤ D ≡ u *ℤ pos 1 *ℤ d -ℤ x *ℤ D *ℤ d
    apart x W u d D e = ≡_cert (x ∷ W ∷ u ∷ d ∷ D ∷ []) (≡_diff e) (search terms depth 60 fits 20000) tt

module _ (x y : ℤ) (m : Spot) (h : Fair m) (q : Point) (k : Marks m q) {s : Bool}
    (e : s ≡ is_equal (order ((x +ℤ pos 32768) *ℤ pos m.d) (pos (m.wx * m.d + m.rx)))) where
  by_x : is_equal (ratio_order x 1 q.x q.d) ≡ s
  by_x =
      let up : 0 < m.d = omega (arith, h.rest_x) in
      ap is_equal (sym (coordinate x _ q.x m.d q.d up k.positive k.along)) ∙ sym e

  pub at_both : {t : Bool} → s ≡ true → t ≡ is_equal (order ((y +ℤ pos 32768) *ℤ pos m.d) (pos (m.wy * m.d + m.ry))) → t ≡ is_equal (point_order (whole_of x y) q)
  unfolding point_order
  at_both {t} g f =
      let up : 0 < m.d = omega (arith, h.rest_x) in
      go (ratio_order x 1 q.x q.d) (ratio_order y 1 q.y q.d) (by_x ∙ g) (f ∙ ap is_equal (coordinate y _ q.y m.d q.d up k.positive k.up))
    where
      go : (o o' : Ordering) → is_equal o ≡ true → t ≡ is_equal o' → t ≡ is_equal (and_then o o')
      go Less o' a b = absurd (let z : ◌≡◌ {A = ℕ} 0 1 = cc in omega arith)
      go Equal o' a b = b
      go Greater o' a b = absurd (let z : ◌≡◌ {A = ℕ} 0 1 = cc in omega arith)

  pub at_neither : s ≡ false → false ≡ is_equal (point_order (whole_of x y) q)
  unfolding point_order
  at_neither g = go (ratio_order x 1 q.x q.d) (ratio_order y 1 q.y q.d) (by_x ∙ g)
    where
      go : (o o' : Ordering) → is_equal o ≡ false → false ≡ is_equal (and_then o o')
      go Less o' a = refl
      go Equal o' a = absurd (let z : ◌≡◌ {A = ℕ} 0 1 = cc in omega arith)
      go Greater o' a = refl
