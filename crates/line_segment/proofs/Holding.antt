-- What the parts of `contains` answer, from what a branch of the code knows.
use mathlib.Core.Path.{◌≡◌, refl, sym, ap, ◌∙◌}
use mathlib.Core.Bool.{Bool, true, false, cond, not, beq, ◌&&◌}
use Prim.Native.Nat.{ℕ, suc, ◌^◌, ◌<◌}
use native.Mathlib.Omega.{arith}
use native.Mathlib.Nat.{le_of_lt}
use mir.Syntax.{w64}
use mir.Val.{SFits, to_z, of_z}
use Rattle.integers.specs.Size.{Small}
use Rattle.integers.proofs.Tests.{t_eq, i_fits, m_yes, m_no}
use Rattle.integers.proofs.Machine.{Mach, m_add, m_neg, m_back, m_small, m_fits, m_eq}
use mathlib.Core.List.{[], ◌∷◌}
use lib.Dec.{eqb, ltb}
use lib.IntN.{ℤ, pos, negsuc, nat_abs, neg_ℤ, ◌-ℤ◌, ◌*ℤ◌, *ℤ_comm, +ℤ_invr}
use lib.Signed.{lt_z, ◌<ℤ◌}
use borrow.Author.Tests.{lt-ltb, le-ltb, ltb-true}
use Rattle.integers.proofs.Ring.{neg-*ℤ, *ℤ_idr}
use Rattle.integers.proofs.Identity.{terms}
use Rattle.integers.proofs.Signs.{<_diff}
use Rattle.integers.proofs.Order.{<_cert}
use Rattle.orientation.specs.declared.Orientation.TheVariants.{CoLinear}
use Rattle.orientation.proofs.Signs.{turn_above, turn_below, turn_neither}
use Rattle.orientation.specs.Turn.{turn_of, is_straight}
use Rattle.std.specs.Ordering.{is_eq}
use Rattle.std.specs.declared.cmp.Ordering.{Ordering}
use Rattle.std.specs.declared.cmp.Ordering.TheVariants.{Less, Equal, Greater}
use Rattle.fractions.specs.declared.Fraction.{Fraction}
use Rattle.fractions.specs.declared.Point.{Point}
use Rattle.fractions.specs.Order.{order}
use Rattle.fractions.specs.Fraction.{above, ratio_order, fraction_order}
use Rattle.fractions.specs.Point.{Bounded, point_order}
use Rattle.fractions.proofs.Orders.{Answer, is_less_lem, is_equal_lem, is_greater, answer, order_less, order_equal, order_greater, less_order, equal_order, greater_order}
use Rattle.line_segment.specs.declared.EndPoint.{EndPoint}
use Rattle.line_segment.specs.declared.LineSegment.{LineSegment}
use Rattle.line_segment.specs.Piece.{point_of}
use Rattle.line_segment.specs.Geometry.{run, rise, side}
use Rattle.line_segment.specs.Segment.{inner_between, in_bounds, contains_of}
use Rattle.line_segment.proofs.Ends.{pair_order}
use Rattle.line_segment.proofs.Booleans.{both, all_but_last, stops_early}

-- ---- bounds
module _ (p : Point) {v : Bool} (e : v ≡ (ltb p.d (2 ^ 33) && ltb (nat_abs p.x) (2 ^ 48))) where
  pub bounds_last : v ≡ true → {n : ℕ} → n ≡ nat_abs p.y → ltb n (2 ^ 48) ≡ in_bounds p
  unfolding in_bounds
  bounds_last f y = rw y (all_but_last (ltb p.d (2 ^ 33)) (ltb (nat_abs p.x) (2 ^ 48)) (ltb (nat_abs p.y) (2 ^ 48)) (sym e ∙ f))

  pub bounds_early : v ≡ false → v ≡ in_bounds p
  unfolding in_bounds
  bounds_early f = f ∙ stops_early (ltb p.d (2 ^ 33)) (ltb (nat_abs p.x) (2 ^ 48)) (ltb (nat_abs p.y) (2 ^ 48)) (sym e ∙ f)

pub bounded : (p : Point) → in_bounds p ≡ true → Bounded p
unfolding in_bounds
bounded p e =
    let h = both e in
    let k = both h.1 in
    record { d_small = ltb-true _ _ h.0; x_small = ltb-true _ _ k.0; y_small = ltb-true _ _ k.1 }

pub in_bounds_lem : (p : Point) → Bounded p → in_bounds p ≡ true
unfolding in_bounds
in_bounds_lem p h = rw (lt-ltb _ _ h.d_small, lt-ltb _ _ h.x_small, lt-ltb _ _ h.y_small)

-- ---- an end against a point, both times D
module _ (e : EndPoint) (p : Point) {a b x y c d : ℤ} (h : a ≡ c *ℤ pos p.d) (k : b ≡ d *ℤ pos p.d) (f : c ≡ e.x) (g : d ≡ e.y) (u : x ≡ p.x) (v : y ≡ p.y) where
  pub end_point_is : pair_order a b x y ≡ point_order (point_of e) p
  unfolding point_of point_order ratio_order
  end_point_is = rw (h, k, f, g, u, v) (simp *ℤ_idr)

-- ---- a point less an end
module _ (x : ℤ) {y : ℤ} (h : nat_abs x < 2 ^ 48) (k : Small (2 ^ 48) y) where
  abbrev reading : Mach (to_z w64 (of_z w64 x) -ℤ to_z w64 (of_z w64 y))
  reading = m_add (m_back w64 {z = x} (m_small {A = 2 ^ 48} (record { small = le_of_lt h }))) (m_neg (m_back w64 (m_small k)))

  pub offset_fits : SFits w64 (to_z w64 (of_z w64 x) -ℤ to_z w64 (of_z w64 y))
  offset_fits = m_fits reading tt

  pub offset_is : {z : ℤ} → y ≡ z → to_z w64 (of_z w64 (to_z w64 (of_z w64 x) -ℤ to_z w64 (of_z w64 y))) ≡ x -ℤ z
  offset_is e = m_eq (m_back w64 reading) tt ∙ ap (λ (w : ℤ). x -ℤ w) e

-- ---- a product by sign and size
signed_product : (p q : ℤ) → cond (not (beq (lt_z p (pos 0)) (lt_z q (pos 0)))) (neg_ℤ (pos (nat_abs p))) (pos (nat_abs p)) *ℤ pos (nat_abs q) ≡ p *ℤ q
signed_product (pos a) (pos b) = rw (le-ltb a 0 (omega arith), le-ltb b 0 (omega arith))
signed_product (pos a) (negsuc b) = rw (le-ltb a 0 (omega arith)) (neg-*ℤ (pos a) (pos (suc b)))
signed_product (negsuc a) (pos b) = rw (le-ltb b 0 (omega arith))
signed_product (negsuc a) (negsuc b) = refl

pub share_is : (p q : ℤ) (u : ℕ) {n : ℕ} {p' q' : ℤ} → n ≡ nat_abs p → p' ≡ p → q' ≡ q → above (record { negative = not (beq (lt_z p' (pos 0)) (lt_z q' (pos 0))); over = n; under = u }) *ℤ pos (nat_abs q) ≡ p *ℤ q
unfolding above
share_is p q u e f g = rw (e, f, g) (signed_product p q)

-- a number as its bits have it
abbrev pub bits : ℤ → ℤ
bits z = to_z w64 (of_z w64 z)

-- the fractions' order is that of the products
pub product_order : (p q u v : ℤ) (s t : Fraction)
    → above s *ℤ pos (nat_abs q) ≡ p *ℤ q → s.under ≡ nat_abs v → above t *ℤ pos (nat_abs v) ≡ u *ℤ v → t.under ≡ nat_abs q
    → fraction_order s t ≡ order (p *ℤ q) (u *ℤ v)
unfolding fraction_order ratio_order
product_order p q u v s t e f g h =
    (λ i. order (above s *ℤ pos (h i)) (above t *ℤ pos (f i))) ∙ (λ i. order (e i) (g i))

pub same_order : {p q u v p' q' u' v' : ℤ} → p ≡ p' → q ≡ q' → u ≡ u' → v ≡ v' → order (p *ℤ q) (u *ℤ v) ≡ order (p' *ℤ q') (u' *ℤ v')
same_order e f g h i = order (e i *ℤ f i) (g i *ℤ h i)

module _ (x y : ℤ) {o : Ordering} (e : o ≡ order x y) where
  pub less_apart : o ≡ Less → false ≡ is_straight (turn_of (x -ℤ y))
  less_apart f = rw (turn_below (under x y (less_order x y (sym e ∙ f))))
    where
      under : (x y : ℤ) → x <ℤ y → (x -ℤ y) <ℤ pos 0
      under x y h = <_cert (x ∷ y ∷ []) (<_diff h) (search terms depth 60 fits 20000) tt

  pub greater_apart : o ≡ Greater → false ≡ is_straight (turn_of (x -ℤ y))
  greater_apart f = rw (turn_above (<_diff (greater_order x y (sym e ∙ f))))

  pub equal_straight : o ≡ Equal → true ≡ is_straight (turn_of (x -ℤ y))
  equal_straight f = rw (turn_zero (equal_order x y (sym e ∙ f)))
    where
      turn_zero : x ≡ y → turn_of (x -ℤ y) ≡ CoLinear
      turn_zero d = ap turn_of (ap (λ (z : ℤ). x -ℤ z) (sym d) ∙ +ℤ_invr x) ∙ turn_neither (record { le = tt }) (record { le = tt })

  pub equal_tells : is_eq o ≡ is_straight (turn_of (x -ℤ y))
  equal_tells = go o refl
    where
      go : (p : Ordering) → o ≡ p → is_eq p ≡ is_straight (turn_of (x -ℤ y))
      go Less f = less_apart f
      go Equal f = equal_straight f
      go Greater f = greater_apart f

apart_turned : (x y : ℤ) → (x ≡ y → ⊥) → false ≡ is_straight (turn_of (x -ℤ y))
apart_turned x y d = go (answer x y)
  where
    go : {o : Ordering} → Answer x y o → false ≡ is_straight (turn_of (x -ℤ y))
    go (is_less_lem h) = less_apart x y refl (order_less h)
    go (is_equal_lem e) = absurd (d e)
    go (is_greater h) = greater_apart x y refl (order_greater h)

-- two numbers that fit are equal where their bits are
pub plain_tells : (a b : ℤ) {x y : ℤ} → SFits w64 a → SFits w64 b → a ≡ x → b ≡ y → eqb (of_z w64 a) (of_z w64 b) ≡ is_straight (turn_of (x -ℤ y))
plain_tells a b {x} {y} f g h k = go _ refl
  where
    go : (t : Bool) → eqb (of_z w64 a) (of_z w64 b) ≡ t → t ≡ is_straight (turn_of (x -ℤ y))
    go true e = equal_straight x y refl (order_equal (sym h ∙ m_yes e (t_eq w64 (i_fits f) (i_fits g)) tt ∙ k))
    go false e = apart_turned x y (λ d. m_no e (t_eq w64 (i_fits f) (i_fits g)) tt (h ∙ d ∙ sym k))

-- ---- the three questions
pub holds_between : (s : LineSegment) (p : Point) → in_bounds p ≡ true → is_straight (turn_of (side s p)) ≡ true → {r : Bool} → r ≡ inner_between p s.min s.max → r ≡ contains_of s p
unfolding contains_of
holds_between s p h k e = e ∙ rw (h, k)

module _ (s : LineSegment) (p : Point) {v : Bool} (e : v ≡ (in_bounds p && is_straight (turn_of (side s p)))) where
  pub holds_last : v ≡ true → {r : Bool} → r ≡ inner_between p s.min s.max → r ≡ contains_of s p
  unfolding contains_of
  holds_last f g = rw g (all_but_last (in_bounds p) (is_straight (turn_of (side s p))) (inner_between p s.min s.max) (sym e ∙ f))

  pub holds_early : v ≡ false → v ≡ contains_of s p
  unfolding contains_of
  holds_early f = f ∙ stops_early (in_bounds p) (is_straight (turn_of (side s p))) (inner_between p s.min s.max) (sym e ∙ f)

-- the line's determinant from its factors
pub side_is : (s : LineSegment) (p : Point) {r y q x c d : ℤ} → c ≡ s.min.x → d ≡ s.min.y
    → r ≡ run s → y ≡ p.y -ℤ d *ℤ pos p.d → q ≡ rise s → x ≡ p.x -ℤ c *ℤ pos p.d → y *ℤ r -ℤ x *ℤ q ≡ side s p
unfolding side
side_is s p {r = r} {y = y} {q = q} {x = x} u v e f g h =
    (λ i. *ℤ_comm y r i -ℤ *ℤ_comm x q i) ∙ (λ i. e i *ℤ f i -ℤ g i *ℤ h i) ∙ (λ i. run s *ℤ (p.y -ℤ v i *ℤ pos p.d) -ℤ rise s *ℤ (p.x -ℤ u i *ℤ pos p.d))
