-- Cramer's point: on both lines, over a positive number, the same whichever piece asks, and within the bounds of a point.
use mathlib.Core.Path.{◌≡◌, refl, sym, ap, ◌∙◌}
use mathlib.Core.List.{[], ◌∷◌}
use Prim.Native.Nat.{zero, suc, ◌<◌, ◌^◌}
use native.Mathlib.Omega.{arith}
use lib.IntN.{ℤ, pos, negsuc, nat_abs, neg_ℤ, neg_ℤ-neg_ℤ, ◌+ℤ◌, ◌-ℤ◌, ◌*ℤ◌}
use Rattle.integers.proofs.Identity.{by_ring, terms}
use Rattle.integers.proofs.Sizes.{abs_neg}
use Rattle.integers.proofs.Machine.{m_bound}
use Rattle.integers.proofs.Tests.{sized}
use Rattle.integers.specs.Size.{Small}
use Rattle.fractions.specs.declared.Point.{Point}
use Rattle.fractions.specs.Point.{Lowest, Bounded, lowest_of, point_order}
use Rattle.std.specs.declared.cmp.Ordering.TheVariants.{Equal}
use Rattle.fractions.proofs.Promises.{lowest_terms}
use Rattle.fractions.proofs.Quotient.{same_record}
use Rattle.line_segment.specs.declared.LineSegment.{LineSegment}
use Rattle.line_segment.specs.Geometry.{run, rise, side}
use Rattle.line_segment.specs.Segment.{moment, over, cramer_of, crossing_of}
use Rattle.line_segment.specs.Demand.{OnChart, CrossingStaysBounded}
use Rattle.line_segment.proofs.CramersRule.{over_same}
use Rattle.line_segment.proofs.Sides.{line, side_line, tilt}

-- ---- X, Y over D, turned where D is below 0
turned₀ : (u v m x y d : ℤ) → u *ℤ neg_ℤ y -ℤ v *ℤ neg_ℤ x +ℤ m *ℤ neg_ℤ d ≡ neg_ℤ (u *ℤ y -ℤ v *ℤ x +ℤ m *ℤ d)
turned₀ u v m x y d = by_ring (u ∷ v ∷ m ∷ x ∷ y ∷ d ∷ []) (search terms depth 60 fits 20000) tt

over_on : (s : LineSegment) (x y d : ℤ) → line s x y d ≡ pos 0 → side s (over x y d) ≡ pos 0
unfolding over
over_on s x y (pos n) e = side_line s (record { x = x; y = y; d = n }) ∙ e
over_on s x y (negsuc n) e =
    side_line s (record { x = neg_ℤ x; y = neg_ℤ y; d = suc n }) ∙ turned₀ (run s) (rise s) (moment s) x y (negsuc n) ∙ ap neg_ℤ e

over_positive : (x y d : ℤ) → ¬ (d ≡ pos 0) → 0 < (over x y d).d
unfolding over
over_positive x y (pos zero) ne = absurd (ne refl)
over_positive x y (pos (suc n)) ne = omega arith
over_positive x y (negsuc n) ne = omega arith

over_turned : (x y d : ℤ) → ¬ (d ≡ pos 0) → over x y d ≡ over (neg_ℤ x) (neg_ℤ y) (neg_ℤ d)
unfolding over
over_turned x y (pos zero) ne = absurd (ne refl)
over_turned x y (pos (suc n)) ne = same_record (sym (neg_ℤ-neg_ℤ x)) (sym (neg_ℤ-neg_ℤ y)) refl
over_turned x y (negsuc n) ne = refl

over_bounded : (x y d : ℤ) → nat_abs d < 2 ^ 33 → nat_abs x < 2 ^ 48 → nat_abs y < 2 ^ 48 → Bounded (over x y d)
unfolding over
over_bounded x y (pos n) h k l = record { d_small = h; x_small = k; y_small = l }
over_bounded x y (negsuc n) h k l = record { d_small = h; x_small = omega (arith, k, abs_neg x); y_small = omega (arith, l, abs_neg y) }

-- ---- two pieces
module _ (u v m u' v' m' : ℤ) where
  first₀ : u *ℤ (v *ℤ m' -ℤ v' *ℤ m) -ℤ v *ℤ (u *ℤ m' -ℤ u' *ℤ m) +ℤ m *ℤ (u *ℤ v' -ℤ v *ℤ u') ≡ pos 0
  first₀ = by_ring (u ∷ v ∷ m ∷ u' ∷ v' ∷ m' ∷ []) (search terms depth 60 fits 20000) tt

  second₀ : u' *ℤ (v *ℤ m' -ℤ v' *ℤ m) -ℤ v' *ℤ (u *ℤ m' -ℤ u' *ℤ m) +ℤ m' *ℤ (u *ℤ v' -ℤ v *ℤ u') ≡ pos 0
  second₀ = by_ring (u ∷ v ∷ m ∷ u' ∷ v' ∷ m' ∷ []) (search terms depth 60 fits 20000) tt

  swapped₀ : u' *ℤ m -ℤ u *ℤ m' ≡ neg_ℤ (u *ℤ m' -ℤ u' *ℤ m)
  swapped₀ = by_ring (u ∷ v ∷ m ∷ u' ∷ v' ∷ m' ∷ []) (search terms depth 60 fits 20000) tt

  turn₀ : u' *ℤ v -ℤ v' *ℤ u ≡ neg_ℤ (u *ℤ v' -ℤ v *ℤ u')
  turn₀ = by_ring (u ∷ v ∷ m ∷ u' ∷ v' ∷ m' ∷ []) (search terms depth 60 fits 20000) tt

module _ (a b : LineSegment) where
  pub cramer_first : side a (cramer_of a b) ≡ pos 0
  unfolding cramer_of
  cramer_first = over_on a _ _ _ (first₀ (run a) (rise a) (moment a) (run b) (rise b) (moment b))

  pub cramer_second : side b (cramer_of a b) ≡ pos 0
  unfolding cramer_of
  cramer_second = over_on b _ _ _ (second₀ (run a) (rise a) (moment a) (run b) (rise b) (moment b))

  module _ (ne : ¬ (tilt a b ≡ pos 0)) where
    pub cramer_positive : 0 < (cramer_of a b).d
    unfolding cramer_of tilt
    cramer_positive = over_positive _ _ _ ne

    cramer_swapped : cramer_of a b ≡ cramer_of b a
    unfolding cramer_of tilt
    cramer_swapped =
        over_turned _ _ _ ne
        ∙ over_same
        (sym (swapped₀ (run a) (rise a) (moment a) (run b) (rise b) (moment b)))
        (sym (swapped₀ (rise a) (run a) (moment a) (rise b) (run b) (moment b)))
        (sym (turn₀ (run a) (rise a) (moment a) (run b) (rise b) (moment b)))

    pub crossing_swapped : crossing_of a b ≡ crossing_of b a
    unfolding crossing_of
    crossing_swapped = ap (λ (p : Point). lowest_of p.x p.y p.d) cramer_swapped

    -- in lowest terms it is the same point
    pub crossing_lowest : Lowest (crossing_of a b)
    unfolding crossing_of
    crossing_lowest = lowest_terms.lowest _ _ _ cramer_positive

  pub crossing_same : point_order (crossing_of a b) (cramer_of a b) ≡ Equal
  unfolding crossing_of
  crossing_same = lowest_terms.same (cramer_of a b).x (cramer_of a b).y (cramer_of a b).d

-- ---- bounds
module _ (s : LineSegment) (c : OnChart s) where
  small_run : Small 65534 (run s)
  unfolding run
  small_run = let h = c.min_x in let k = c.max_x in m_bound (search sized depth 60 fits 20000) tt

  small_rise : Small 65534 (rise s)
  unfolding rise
  small_rise = let h = c.min_y in let k = c.max_y in m_bound (search sized depth 60 fits 20000) tt

  small_moment : Small 2147352578 (moment s)
  unfolding moment
  small_moment = let h = c.min_x in let k = c.max_x in let l = c.min_y in let n = c.max_y in m_bound (search sized depth 60 fits 20000) tt

minor_small : {u v m n : ℤ} → Small 65534 u → Small 65534 v → Small 2147352578 m → Small 2147352578 n → Small 281449207693304 (u *ℤ n -ℤ v *ℤ m)
minor_small h k l n = m_bound (search sized depth 60 fits 20000) tt

tilt_small : {u v u' v' : ℤ} → Small 65534 u → Small 65534 v → Small 65534 u' → Small 65534 v' → Small 8589410312 (u *ℤ v' -ℤ v *ℤ u')
tilt_small h k l n = m_bound (search sized depth 60 fits 20000) tt

pub crossing_stays_bounded : CrossingStaysBounded
unfolding crossing_of cramer_of
crossing_stays_bounded a b ca cb =
    lowest_terms.bounded _ _ _
    (over_bounded _ _ _
    (under (tilt_small (small_run a ca) (small_rise a ca) (small_run b cb) (small_rise b cb)))
    (below (minor_small (small_run a ca) (small_run b cb) (small_moment a ca) (small_moment b cb)))
    (below (minor_small (small_rise a ca) (small_rise b cb) (small_moment a ca) (small_moment b cb))))
  where
    under : {z : ℤ} → Small 8589410312 z → nat_abs z < 2 ^ 33
    under h = omega (arith, h.small)

    below : {z : ℤ} → Small 281449207693304 z → nat_abs z < 2 ^ 48
    below h = omega (arith, h.small)
