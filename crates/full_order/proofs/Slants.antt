-- The finer order at one point: when a piece is overhead, what the order says of two sloped pieces by their gap and tilt,
-- and that it is strict and total.
use mathlib.Core.Path.{◌≡◌, refl, sym, ap, ◌∙◌, subst}
use mathlib.Core.Logic.{◌⊎◌, inl, inr}
use mathlib.Core.Bool.{false}
use mathlib.Core.List.{[], ◌∷◌}
use Prim.Native.Nat.{ℕ, ◌<◌}
use lib.IntN.{ℤ, pos, neg_ℤ, ◌-ℤ◌, ◌*ℤ◌}
use lib.Signed.{◌≤ℤ◌, ◌<ℤ◌, clash_ℤ}
use Rattle.integers.proofs.Identity.{by_ring, terms}
use Rattle.integers.proofs.Signs.{<→≤, n*n}
use Rattle.integers.proofs.Order.{≡_cert, ≡→≤, <_or-≥, ≮→≥, ≰→>, ≤_antisym}
use Rattle.integers.proofs.Factors.{m/p, n/p, o/p, m*p}
use Rattle.integers.proofs.Naturals.{pos-<}
use Rattle.fractions.specs.Order.{order, and_then}
use Rattle.std.specs.declared.cmp.Ordering.{Ordering}
use Rattle.std.specs.declared.cmp.Ordering.TheVariants.{Less, Equal, Greater}
use Rattle.fractions.specs.declared.Point.{Point}
use Rattle.fractions.proofs.Orders.{Answer, is_less_lem, is_equal_lem, is_greater, answer, order_less, order_equal, order_greater, less_order, equal_order, greater_order}
use Rattle.line_segment.specs.declared.LineSegment.{LineSegment}
use Rattle.line_segment.specs.Geometry.{run, rise, side}
use Rattle.line_segment.proofs.Along.{Leads, leads}
use Rattle.line_segment.proofs.Sides.{tilt}
use Rattle.sweep.specs.Ported.{is_less, height_above, height_below}
use Rattle.sweep_geometry.specs.Full.{full_above, full_below, full_height_order}
use Rattle.sweep_geometry.specs.Demand.{AllProper}
use Rattle.sweep_geometry.proofs.Comparisons.{Orders, order_scaled}
use Rattle.sweep_geometry.proofs.Gap.{gap, gap_sides, slope_tilt, below_side}
use Rattle.sweep_geometry.proofs.Slopes.{standing_is, lean_down, lean_orders}
use Rattle.sweep_geometry.proofs.Ranking.{less_is, rank_irr, rank_trans, rank_total}
use Rattle.sweep_geometry.proofs.Heights.{above_sloped, below_sloped, full_heights, full_even, order_diff, zero_times, height_by_gap}
use Rattle.sweep_geometry.proofs.Preceding.{Precedes, not_first, then_second, precedes}
use Rattle.sweep_geometry.proofs.Supply.{Ranks}
use Rattle.full_order.specs.Finer.{aside, overhead, slant, slant_order, finer_order}

-- ---- what aside says
module _ (p : Point) (s : LineSegment) where
  pub below_aside : side s p <ℤ pos 0 → aside p s ≡ Less
  unfolding aside
  below_aside h = order_less h

  pub on_aside : side s p ≡ pos 0 → aside p s ≡ Equal
  unfolding aside
  on_aside e = order_equal e

  pub above_aside : pos 0 <ℤ side s p → aside p s ≡ Greater
  unfolding aside
  above_aside h = order_greater h

  pub aside_below : aside p s ≡ Less → side s p <ℤ pos 0
  unfolding aside
  aside_below e = less_order (side s p) (pos 0) e

  pub aside_on : aside p s ≡ Equal → side s p ≡ pos 0
  unfolding aside
  aside_on e = equal_order (side s p) (pos 0) e

  pub aside_above : aside p s ≡ Greater → pos 0 <ℤ side s p
  unfolding aside
  aside_above e = greater_order (side s p) (pos 0) e

  not_below : pos 0 ≤ℤ side s p → is_less (aside p s) ≡ false
  unfolding aside
  not_below k = go (answer (side s p) (pos 0))
    where
      go : {o : Ordering} → Answer (side s p) (pos 0) o → is_less o ≡ false
      go (is_less_lem g) = clash_ℤ g k
      go (is_equal_lem g) = refl
      go (is_greater g) = refl

-- ---- overhead: an upright piece never, a sloped one where p lies below it
module _ (p : Point) (s : LineSegment) where
  overhead_standing : run s ≡ pos 0 → overhead p s ≡ false
  unfolding overhead full_above full_below height_above height_below
  overhead_standing e = rw (standing_is s e) (ap is_less (order_equal {a = p.y *ℤ pos p.d} refl))

  overhead_sloped : 0 < p.d → pos 0 <ℤ run s → overhead p s ≡ is_less (aside p s)
  unfolding overhead aside
  overhead_sloped d h =
      rw (above_sloped s p h, below_sloped s p h)
      (ap is_less
      (order_diff _ _
      ∙ ap (order (pos 0)) (below_side s p)
      ∙ ap (λ (z : ℤ). order z (neg_ℤ (side s p) *ℤ pos p.d)) (sym (zero_times (pos p.d)))
      ∙ sym (order_scaled (pos 0) (neg_ℤ (side s p)) (pos p.d) (pos-< d))
      ∙ ap (order (pos 0)) (flipped (side s p))
      ∙ sym (order_diff (side s p) (pos 0))))
    where
      flipped : (z : ℤ) → neg_ℤ z ≡ pos 0 -ℤ z
      flipped z = by_ring (z ∷ []) (search terms depth 60 fits 20000) tt

  -- ---- the slant: the rise, but of a sloped piece above p the fall
  pub standing_slant : run s ≡ pos 0 → slant p s ≡ rise s
  unfolding slant
  standing_slant e = rw (overhead_standing e)

  module _ (d : 0 < p.d) (h : pos 0 <ℤ run s) where
    pub rising_slant : pos 0 ≤ℤ side s p → slant p s ≡ rise s
    unfolding slant
    rising_slant k = rw (overhead_sloped d h ∙ not_below p s k)

    falling_slant : side s p <ℤ pos 0 → slant p s ≡ neg_ℤ (rise s)
    unfolding slant
    falling_slant k = rw (overhead_sloped d h ∙ ap is_less (below_aside p s k))

-- ---- two sloped pieces of one height: p lies on one side of both, and the tilt decides
module _ (a b : LineSegment) (p : Point) (d : 0 < p.d) (ha : pos 0 <ℤ run a) (hb : pos 0 <ℤ run b) (g : gap a b p ≡ pos 0) where
  sides_even : side b p *ℤ run a ≡ side a p *ℤ run b
  sides_even = even₀ (side a p) (side b p) (run a) (run b) (sym (gap_sides a b p) ∙ g)
    where
      even₀ : (x y u v : ℤ) → v *ℤ x -ℤ u *ℤ y ≡ pos 0 → y *ℤ u ≡ x *ℤ v
      even₀ x y u v e = ≡_cert (x ∷ y ∷ u ∷ v ∷ []) e (search terms depth 60 fits 20000) tt

  pub also_below : side a p <ℤ pos 0 → side b p <ℤ pos 0
  also_below h = m/p (side b p) ha (subst (λ (z : ℤ). z <ℤ pos 0) (sym sides_even) (m*p h hb))

  pub also_not_below : pos 0 ≤ℤ side a p → pos 0 ≤ℤ side b p
  also_not_below h = n/p (side b p) ha (subst (λ (z : ℤ). pos 0 ≤ℤ z) (sym sides_even) (n*n h (<→≤ hb)))

  pub also_on : side a p ≡ pos 0 → side b p ≡ pos 0
  also_on e = ≤_antisym (o/p (side b p) ha (≡→≤ z)) (also_not_below (≡→≤ (sym e)))
    where
      z : side b p *ℤ run a ≡ pos 0
      z = sides_even ∙ ap (λ (w : ℤ). w *ℤ run b) e ∙ zero_times (run b)

  -- not below p: by rising slope
  pub rising : pos 0 ≤ℤ side a p → slant_order p a b ≡ order (pos 0) (tilt a b)
  unfolding slant_order
  rising h = rw (rising_slant p a d ha h, rising_slant p b d hb (also_not_below h)) (order_diff (rise a *ℤ run b) (rise b *ℤ run a) ∙ ap (order (pos 0)) (slope_tilt a b))

  -- above p: by falling slope
  pub falling : side a p <ℤ pos 0 → slant_order p a b ≡ order (tilt a b) (pos 0)
  unfolding slant_order
  falling h =
      rw (falling_slant p a d ha h, falling_slant p b d hb (also_below h))
      (order_diff (neg_ℤ (rise a) *ℤ run b) (neg_ℤ (rise b) *ℤ run a)
      ∙ ap (order (pos 0)) (turn (rise a) (run a) (rise b) (run b) ∙ ap (λ (z : ℤ). pos 0 -ℤ z) (slope_tilt a b))
      ∙ sym (order_diff (tilt a b) (pos 0)))
    where
      turn : (v u v' u' : ℤ) → neg_ℤ v' *ℤ u -ℤ neg_ℤ v *ℤ u' ≡ pos 0 -ℤ (v' *ℤ u -ℤ v *ℤ u')
      turn v u v' u' = by_ring (v ∷ u ∷ v' ∷ u' ∷ []) (search terms depth 60 fits 20000) tt

  -- parallel: neither
  pub level_slant : tilt a b ≡ pos 0 → slant_order p a b ≡ Equal
  level_slant t = go (<_or-≥ (side a p) (pos 0))
    where
      go : (side a p <ℤ pos 0) ⊎ (pos 0 ≤ℤ side a p) → slant_order p a b ≡ Equal
      go (inl h) = falling h ∙ order_equal t
      go (inr h) = rising h ∙ order_equal (sym t)

-- ---- strict and total, and what it says of where pieces lie
abbrev pub Finer : Point → LineSegment → LineSegment → Ordering → Type 0
Finer p a b r = and_then (full_height_order p a b) (and_then (slant_order p a b) r) ≡ Less

upright_rises : (p : Point) (s : LineSegment) → run s ≡ pos 0 → pos 0 <ℤ rise s → pos 0 <ℤ slant p s
upright_rises p s e h = subst (λ (z : ℤ). pos 0 <ℤ z) (sym (standing_slant p s e)) h

slant_orders : (p : Point) → Orders Leads (slant_order p)
unfolding slant_order
slant_orders p = lean_orders (slant p) (upright_rises p)

slant_even : (p : Point) (s : LineSegment) → slant_order p s s ≡ Equal
unfolding slant_order
slant_even p s = order_equal refl

pub finer_precedes : (a b : LineSegment) (p : Point) → 0 < p.d → (r : Ordering) → Finer p a b r → Precedes p a b
finer_precedes a b p d r = precedes a b p d (slant_order p a b) r down meet
  where
    down : run a ≡ pos 0 → pos 0 <ℤ rise a → pos 0 <ℤ run b → slant_order p a b ≡ Greater
    down = unfold slant_order in lean_down (slant p) (upright_rises p) a b

    meet : pos 0 <ℤ run a → pos 0 <ℤ run b → gap a b p ≡ pos 0 → tilt a b <ℤ pos 0 → ¬ (slant_order p a b ≡ Greater) → side a p <ℤ pos 0
    meet ha hb g t n = ≰→> (λ h. n (rising a b p d ha hb g h ∙ order_greater t))

-- of one height, b the steeper: they do not lie above p
pub finer_behind : (a b : LineSegment) (p : Point) → 0 < p.d → (r : Ordering) → Finer p a b r
    → pos 0 <ℤ run a → pos 0 <ℤ run b → gap a b p ≡ pos 0 → pos 0 <ℤ tilt a b → pos 0 ≤ℤ side a p
finer_behind a b p d r h ha hb g t =
    ≮→≥ (λ k.
    not_first (slant_order p a b) r (then_second (full_height_order p a b) (and_then (slant_order p a b) r) h (height_by_gap a b p d ha hb ∙ order_equal (sym g)))
    (falling a b p d ha hb g k ∙ order_greater t))

pub finer_ranks : (n : ℕ) (piece : ℕ → LineSegment) → AllProper n piece → Ranks n piece (λ p i j. is_less (finer_order piece p i j))
unfolding finer_order
finer_ranks n piece ok =
    record {
      irr = λ p. rank_irr piece (full_height_order p) (slant_order p) (full_even p) (slant_even p);
      trans = λ p d i j k hi hj hk. rank_trans piece (full_height_order p) (slant_order p) (full_heights p d) (slant_orders p) i j (lies i hi) (lies j hj) k (lies k hk);
      total = λ p d i j hi hj. rank_total piece (full_height_order p) (slant_order p) (full_heights p d) (slant_orders p) i j (lies i hi) (lies j hj);
      precedes = λ p d i j hi hj e. finer_precedes (piece i) (piece j) p d (order (pos i) (pos j)) (less_is _ e);
    }
  where
    lies : (i : ℕ) → i < n → Leads (piece i)
    lies i h = leads (piece i) (ok i h).length
