-- The order of heights at p's x, by the place where two lines meet.
use mathlib.Core.Path.{◌≡◌, refl, sym, ap, ◌∙◌}
use mathlib.Core.Bool.{true, false}
use mathlib.Core.List.{[], ◌∷◌}
use Prim.Native.Nat.{ℕ, zero, suc, ◌<◌}
use native.Mathlib.Omega.{arith}
use lib.IntN.{ℤ, pos, negsuc, neg_ℤ, ◌+ℤ◌, ◌-ℤ◌, ◌*ℤ◌}
use lib.Signed.{◌≤ℤ◌, ◌<ℤ◌}
use Rattle.integers.proofs.Identity.{by_ring, terms}
use Rattle.integers.proofs.Signs.{<_diff, <→≤, ≡_diff}
use Rattle.integers.proofs.Order.{<_cert, ≤_cert, ≡→≤}
use Rattle.integers.proofs.Naturals.{pos-<, <_pos}
use Rattle.fractions.specs.Order.{order, and_then}
use Rattle.fractions.specs.Fraction.{ratio_order}
use Rattle.std.specs.declared.cmp.Ordering.{Ordering}
use Rattle.std.specs.declared.cmp.Ordering.TheVariants.{Less, Equal, Greater}
use Rattle.fractions.specs.declared.Point.{Point}
use Rattle.fractions.proofs.Orders.{order_equal, less_order, equal_order, greater_order}
use Rattle.fractions.proofs.Ratios.{order_scaled}
use Rattle.line_segment.specs.declared.LineSegment.{LineSegment}
use Rattle.line_segment.specs.Geometry.{run, rise}
use Rattle.line_segment.specs.Segment.{moment, over, cramer_of}
use Rattle.charts.specs.Piece.{is_upright}
use Rattle.sweep.specs.Ported.{height_above, height_below, height_order, slope_order, rank_order}
use Rattle.sweep_geometry.proofs.Heights.{order_diff}
use Rattle.ported_heights.specs.Heights.{line_order, level_at}

-- numbers as far apart compare alike
order_apart : (a b a' b' : ℤ) → b -ℤ a ≡ b' -ℤ a' → order a b ≡ order a' b'
order_apart a b a' b' e = order_diff a b ∙ ap (order (pos 0)) e ∙ sym (order_diff a' b')

-- ---- the tilt of two lines, above 0 where b is the steeper
module _ (a b : LineSegment) where
  abbrev tilt : ℤ
  tilt = run a *ℤ rise b -ℤ rise a *ℤ run b

  pub slope_is : {u v w z : ℤ} → u ≡ rise a → v ≡ run b → w ≡ rise b → z ≡ run a → order (u *ℤ v) (w *ℤ z) ≡ slope_order a b
  unfolding slope_order
  slope_is e f g h i = order (e i *ℤ f i) (g i *ℤ h i)

  pub tilt_less : slope_order a b ≡ Less → pos 0 ≤ℤ tilt
  unfolding slope_order
  tilt_less e = ≤_cert (run a ∷ rise a ∷ run b ∷ rise b ∷ []) (<→≤ (<_diff (less_order _ _ e))) (search terms depth 60 fits 20000) tt

  pub tilt_equal : slope_order a b ≡ Equal → pos 0 ≤ℤ tilt
  unfolding slope_order
  tilt_equal e = ≤_cert (run a ∷ rise a ∷ run b ∷ rise b ∷ []) (≡→≤ (sym (≡_diff (equal_order _ _ e)))) (search terms depth 60 fits 20000) tt

  pub tilt_greater : slope_order a b ≡ Greater → tilt <ℤ pos 0
  unfolding slope_order
  tilt_greater e = <_cert (run a ∷ rise a ∷ run b ∷ rise b ∷ []) (<_diff (greater_order _ _ e)) (search terms depth 60 fits 20000) tt

-- ---- X, Y over D against u over e
over_ahead : (x y d u : ℤ) (e : ℕ) → pos 0 ≤ℤ d → ratio_order (over x y d).x (over x y d).d u e ≡ order (x *ℤ pos e) (u *ℤ d)
unfolding ratio_order over
over_ahead x y (pos d) u e h = refl
over_ahead x y (negsuc d) u e h = absurd h.le

over_behind : (x y d u : ℤ) (e : ℕ) → d <ℤ pos 0 → ratio_order u e (over x y d).x (over x y d).d ≡ order (x *ℤ pos e) (u *ℤ d)
unfolding ratio_order over
over_behind x y (pos d) u e h = absurd (omega (arith, <_pos h))
over_behind x y (negsuc d) u e h = order_apart _ _ _ _ (both x (pos e) u (negsuc d))
  where
    both : (x e u d : ℤ) → neg_ℤ x *ℤ e -ℤ u *ℤ neg_ℤ d ≡ u *ℤ d -ℤ x *ℤ e
    both x e u d = by_ring (x ∷ e ∷ u ∷ d ∷ []) (search terms depth 60 fits 20000) tt

module _ (p : Point) (a b : LineSegment) {c : Point} (is : c ≡ cramer_of a b) {x u : ℤ} (hx : x ≡ c.x) (hu : u ≡ p.x) where
  pub meets_ahead : pos 0 ≤ℤ tilt a b → ratio_order x c.d u p.d ≡ line_order p a b
  unfolding line_order cramer_of
  meets_ahead h = rw (hx, hu, is) (over_ahead _ _ _ p.x p.d h)

  pub meets_behind : tilt a b <ℤ pos 0 → ratio_order u p.d x c.d ≡ line_order p a b
  unfolding line_order cramer_of
  meets_behind h = rw (hx, hu, is) (over_behind _ _ _ p.x p.d h)

-- ---- heights
-- over plain numbers: a piece from x, y to x', y', at X over D
abbrev above₀ : ℤ → ℤ → ℤ → ℤ → ℤ → ℤ → ℤ
above₀ x y x' y' X D = y *ℤ (x' *ℤ D -ℤ X) +ℤ y' *ℤ (X -ℤ x *ℤ D)

-- the line of such a piece against the level of h
level_first : (h x y x' y' X D : ℤ)
    → X *ℤ ((pos 1 -ℤ pos 0) *ℤ (y' -ℤ y) -ℤ (h -ℤ h) *ℤ (x' -ℤ x))
    -ℤ ((pos 1 -ℤ pos 0) *ℤ (x *ℤ y' -ℤ x' *ℤ y) -ℤ (x' -ℤ x) *ℤ (pos 0 *ℤ h -ℤ pos 1 *ℤ h)) *ℤ D
    ≡ above₀ x y x' y' X D *ℤ pos 1 -ℤ h *ℤ ((x' -ℤ x) *ℤ D)
level_first h x y x' y' X D = by_ring (h ∷ x ∷ y ∷ x' ∷ y' ∷ X ∷ D ∷ []) (search terms depth 60 fits 20000) tt

level_second : (h x y x' y' X D : ℤ)
    → X *ℤ ((x' -ℤ x) *ℤ (h -ℤ h) -ℤ (y' -ℤ y) *ℤ (pos 1 -ℤ pos 0))
    -ℤ ((x' -ℤ x) *ℤ (pos 0 *ℤ h -ℤ pos 1 *ℤ h) -ℤ (pos 1 -ℤ pos 0) *ℤ (x *ℤ y' -ℤ x' *ℤ y)) *ℤ D
    ≡ h *ℤ ((x' -ℤ x) *ℤ D) -ℤ above₀ x y x' y' X D *ℤ pos 1
level_second h x y x' y' X D = by_ring (h ∷ x ∷ y ∷ x' ∷ y' ∷ X ∷ D ∷ []) (search terms depth 60 fits 20000) tt

-- two such lines
two_lines : (x y x' y' u v u' v' X D : ℤ)
    → (X *ℤ ((x' -ℤ x) *ℤ (v' -ℤ v) -ℤ (y' -ℤ y) *ℤ (u' -ℤ u))) *ℤ D
    -ℤ (((x' -ℤ x) *ℤ (u *ℤ v' -ℤ u' *ℤ v) -ℤ (u' -ℤ u) *ℤ (x *ℤ y' -ℤ x' *ℤ y)) *ℤ D) *ℤ D
    ≡ above₀ u v u' v' X D *ℤ ((x' -ℤ x) *ℤ D) -ℤ above₀ x y x' y' X D *ℤ ((u' -ℤ u) *ℤ D)
two_lines x y x' y' u v u' v' X D = by_ring (x ∷ y ∷ x' ∷ y' ∷ u ∷ v ∷ u' ∷ v' ∷ X ∷ D ∷ []) (search terms depth 60 fits 20000) tt

over_none : (h u k v : ℤ) (d : ℕ) → d ≡ 0 → h *ℤ (u *ℤ pos d) ≡ k *ℤ (v *ℤ pos d)
over_none h u k v d z = rw z (by_ring (h ∷ u ∷ k ∷ v ∷ []) (search terms depth 60 fits 20000) tt)

positive : (n : ℕ) → ¬ (n ≡ 0) → 0 < n
positive zero f = absurd (f refl)
positive (suc n) f = omega arith

-- of two pieces, by whether each is upright
module _ (p : Point) (a b : LineSegment) where
  pub both_upright : {y v : ℤ} → y ≡ a.min.y → v ≡ b.min.y → is_upright a ≡ true → is_upright b ≡ true → ratio_order y 1 v 1 ≡ height_order p a b
  unfolding height_order height_above height_below ratio_order
  both_upright hy hv e f = rw (hy, hv, e, f)

  pub first_upright : {s : LineSegment} {y : ℤ} → s ≡ level_at y → y ≡ a.min.y → is_upright a ≡ true → is_upright b ≡ false → line_order p s b ≡ height_order p a b
  unfolding height_order height_above height_below line_order level_at run rise moment
  first_upright hs hy e f =
      rw (hs, hy, e, f)
      (order_apart _ _ _ _ (level_first a.min.y b.min.x b.min.y b.max.x b.max.y p.x (pos p.d)))

  pub second_upright : {s : LineSegment} {y : ℤ} → s ≡ level_at y → y ≡ b.min.y → is_upright a ≡ false → is_upright b ≡ true → line_order p a s ≡ height_order p a b
  unfolding height_order height_above height_below line_order level_at run rise moment
  second_upright hs hy e f =
      rw (hs, hy, e, f)
      (order_apart _ _ _ _ (level_second b.min.y a.min.x a.min.y a.max.x a.max.y p.x (pos p.d)))

  module _ (e : is_upright a ≡ false) (f : is_upright b ≡ false) where
    pub over_zero : p.d ≡ 0 → Equal ≡ height_order p a b
    unfolding height_order height_below
    over_zero z =
        rw (e, f)
        (sym (order_equal (over_none (height_above a p) (run b) (height_above b p) (run a) p.d z)))

    pub both_sloped : ¬ (p.d ≡ 0) → line_order p a b ≡ height_order p a b
    unfolding height_order height_above height_below line_order run rise moment
    both_sloped z =
        rw (e, f)
        (order_scaled _ _ (pos p.d) (pos-< (positive p.d z))
        ∙ order_apart _ _ _ _ (two_lines a.min.x a.min.y a.max.x a.max.y b.min.x b.min.y b.max.x b.max.y p.x (pos p.d)))

-- ---- height, then slope, then number
then_assoc : (o s k : Ordering) → and_then (and_then o s) k ≡ and_then o (and_then s k)
then_assoc Less s k = refl
then_assoc Equal s k = refl
then_assoc Greater s k = refl

pub by_rank :
    (piece : ℕ → LineSegment) (p : Point) (i j : ℕ) {o s k : Ordering} →
    o ≡ height_order p (piece i) (piece j) → s ≡ slope_order (piece i) (piece j) → k ≡ order (pos i) (pos j) →
    and_then (and_then o s) k ≡ rank_order piece p i j
unfolding rank_order
by_rank piece p i j {o} {s} {k} e f g = then_assoc o s k ∙ (λ x. and_then (e x) (and_then (f x) (g x)))
