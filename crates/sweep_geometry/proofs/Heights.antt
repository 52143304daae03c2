-- Both orders of the active list are strict total orders on every chart (`full_trans`, `ported_trans` and so on); on sloped
-- pieces the height is told by the gap, the slope by the tilt.
use mathlib.Core.Path.{◌≡◌, refl, sym, ap, ◌∙◌}
use mathlib.Core.Logic.{◌≢◌}
use mathlib.Core.Bool.{true, false}
use mathlib.Core.List.{[], ◌∷◌}
use Prim.Native.Nat.{ℕ, ◌<◌}
use lib.IntN.{ℤ, pos, ◌+ℤ◌, ◌-ℤ◌, ◌*ℤ◌}
use lib.Signed.{◌<ℤ◌, lt_z_yes}
use Rattle.integers.proofs.Identity.{by_ring, terms}
use Rattle.integers.proofs.Signs.{<_diff, p*p}
use Rattle.integers.proofs.Order.{<_cert}
use Rattle.integers.proofs.Naturals.{pos-<}
use Rattle.fractions.specs.Order.{order}
use Rattle.std.specs.declared.cmp.Ordering.{Ordering}
use Rattle.std.specs.declared.cmp.Ordering.TheVariants.{Equal}
use Rattle.fractions.specs.declared.Point.{Point}
use Rattle.fractions.proofs.Orders.{Answer, is_less_lem, is_equal_lem, is_greater, answer, order_less, order_equal, order_greater}
use Rattle.line_segment.specs.declared.LineSegment.{LineSegment}
use Rattle.line_segment.specs.Geometry.{run, rise}
use Rattle.line_segment.specs.Segment.{moment}
use Rattle.line_segment.proofs.Along.{Leads, rightward, upward}
use Rattle.line_segment.proofs.Sides.{tilt}
use Rattle.sweep.specs.Ported.{is_less, height_above, height_below, height_order, slope_order, rank_order}
use Rattle.sweep_geometry.specs.Full.{full_above, full_below, full_height_order, full_order}
use Rattle.sweep_geometry.proofs.Comparisons.{Orders, order_scaled, fraction_orders}
use Rattle.sweep_geometry.proofs.Ranking.{rank_irr, rank_trans, rank_total}
use Rattle.sweep_geometry.proofs.Slopes.{sloped_not, standing_is, slope_orders}
use Rattle.sweep_geometry.proofs.Gap.{height, gap, slope_tilt, gap_heights}

module _ (s : LineSegment) (p : Point) where
  pub above_sloped : pos 0 <ℤ run s → full_above s p ≡ height s p
  unfolding full_above height_above rise moment
  above_sloped h = rw (sloped_not s h) (level₀ s.min.x s.min.y s.max.x s.max.y p.x (pos p.d))
    where
      level₀ : (x y x2 y2 X D : ℤ) → y *ℤ (x2 *ℤ D -ℤ X) +ℤ y2 *ℤ (X -ℤ x *ℤ D) ≡ (y2 -ℤ y) *ℤ X -ℤ (x *ℤ y2 -ℤ x2 *ℤ y) *ℤ D
      level₀ x y x2 y2 X D = by_ring (x ∷ y ∷ x2 ∷ y2 ∷ X ∷ D ∷ []) (search terms depth 60 fits 20000) tt

  pub below_sloped : pos 0 <ℤ run s → full_below s p ≡ run s *ℤ pos p.d
  unfolding full_below height_below
  below_sloped h = rw (sloped_not s h)

  pub above_standing : run s ≡ pos 0 → full_above s p ≡ p.y
  unfolding full_above
  above_standing e = rw (standing_is s e)

  pub below_standing : run s ≡ pos 0 → full_below s p ≡ pos p.d
  unfolding full_below
  below_standing e = rw (standing_is s e)

  below_up : 0 < p.d → Leads s → pos 0 <ℤ full_below s p
  below_up d (rightward h) = rw (below_sloped h) (p*p h (pos-< d))
  below_up d (upward e k) = rw (below_standing e) (pos-< d)

-- ---- the two orders of the active list
module _ (p : Point) where
  pub full_heights : 0 < p.d → Orders Leads (full_height_order p)
  unfolding full_height_order
  full_heights d = fraction_orders (λ s. full_above s p) (λ s. full_below s p) (λ s l. below_up s p d l)

  pub full_even : (s : LineSegment) → full_height_order p s s ≡ Equal
  unfolding full_height_order
  full_even s = order_equal refl

  ported_up : 0 < p.d → (s : LineSegment) → Leads s → pos 0 <ℤ height_below s p
  unfolding height_below
  ported_up d s (rightward h) = rw (sloped_not s h) (p*p h (pos-< d))
  ported_up d s (upward e k) = rw (standing_is s e) (lt_z_yes tt)

  ported_heights : 0 < p.d → Orders Leads (height_order p)
  unfolding height_order
  ported_heights d = fraction_orders (λ s. height_above s p) (λ s. height_below s p) (ported_up d)

  ported_even : (s : LineSegment) → height_order p s s ≡ Equal
  unfolding height_order
  ported_even s = order_equal refl

slope_even : (s : LineSegment) → slope_order s s ≡ Equal
unfolding slope_order
slope_even s = order_equal refl

module _ (piece : ℕ → LineSegment) (p : Point) where
  pub full_irr : (i : ℕ) → is_less (full_order piece p i i) ≡ false
  unfolding full_order
  full_irr = rank_irr piece (full_height_order p) slope_order (full_even p) slope_even

  pub ported_irr : (i : ℕ) → is_less (rank_order piece p i i) ≡ false
  unfolding rank_order
  ported_irr = rank_irr piece (height_order p) slope_order (ported_even p) slope_even

  module _ (d : 0 < p.d) (i j : ℕ) (a : Leads (piece i)) (b : Leads (piece j)) where
    pub full_trans : (k : ℕ) → Leads (piece k) → is_less (full_order piece p i j) ≡ true → is_less (full_order piece p j k) ≡ true → is_less (full_order piece p i k) ≡ true
    unfolding full_order
    full_trans = rank_trans piece (full_height_order p) slope_order (full_heights p d) slope_orders i j a b

    pub full_total : i ≢ j → is_less (full_order piece p i j) ≡ false → is_less (full_order piece p j i) ≡ true
    unfolding full_order
    full_total = rank_total piece (full_height_order p) slope_order (full_heights p d) slope_orders i j a b

    pub ported_trans : (k : ℕ) → Leads (piece k) → is_less (rank_order piece p i j) ≡ true → is_less (rank_order piece p j k) ≡ true → is_less (rank_order piece p i k) ≡ true
    unfolding rank_order
    ported_trans = rank_trans piece (height_order p) slope_order (ported_heights p d) slope_orders i j a b

    pub ported_total : i ≢ j → is_less (rank_order piece p i j) ≡ false → is_less (rank_order piece p j i) ≡ true
    unfolding rank_order
    ported_total = rank_total piece (height_order p) slope_order (ported_heights p d) slope_orders i j a b

-- ---- sloped pieces: by the gap, then by the tilt
pub order_diff : (a b : ℤ) → order a b ≡ order (pos 0) (b -ℤ a)
order_diff a b = go (answer a b)
  where
    go : {o : Ordering} → Answer a b o → o ≡ order (pos 0) (b -ℤ a)
    go (is_less_lem h) = sym (order_less (<_diff h))
    go (is_equal_lem e) = sym (order_equal (rw e (by_ring (b ∷ []) (search terms depth 60 fits 20000) tt)))
    go (is_greater h) = sym (order_greater (under (<_diff h)))
      where
        under : pos 0 <ℤ (a -ℤ b) → (b -ℤ a) <ℤ pos 0
        under k = <_cert (a ∷ b ∷ []) k (search terms depth 60 fits 20000) tt

pub zero_times : (z : ℤ) → pos 0 *ℤ z ≡ pos 0
zero_times z = by_ring (z ∷ []) (search terms depth 60 fits 20000) tt

module _ (a b : LineSegment) (p : Point) (d : 0 < p.d) where
  pub slope_by_tilt : slope_order a b ≡ order (pos 0) (tilt a b)
  unfolding slope_order
  slope_by_tilt = order_diff (rise a *ℤ run b) (rise b *ℤ run a) ∙ ap (order (pos 0)) (slope_tilt a b)

  module _ (ha : pos 0 <ℤ run a) (hb : pos 0 <ℤ run b) where
    pub height_by_gap : full_height_order p a b ≡ order (pos 0) (gap a b p)
    unfolding full_height_order
    height_by_gap =
        rw (above_sloped a p ha, above_sloped b p hb, below_sloped a p ha, below_sloped b p hb)
        (order_diff _ _ ∙ ap (order (pos 0)) (gap_heights a b p) ∙ zero_scaled (gap a b p))
      where
        zero_scaled : (z : ℤ) → order (pos 0) (z *ℤ pos p.d) ≡ order (pos 0) z
        zero_scaled z = sym (order_scaled (pos 0) z (pos p.d) (pos-< d) ∙ ap (λ (w : ℤ). order w (z *ℤ pos p.d)) (zero_times (pos p.d)))
