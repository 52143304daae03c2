-- Pieces at a point p that lies between their ends: those below p come first, then those through it by slope and number,
-- then those above.
use mathlib.Core.Path.{◌≡◌, refl, sym, ap, ◌∙◌, subst}
use mathlib.Core.List.{[], ◌∷◌}
use Prim.Native.Nat.{◌<◌}
use lib.IntN.{ℤ, pos, neg_ℤ, ◌-ℤ◌, ◌*ℤ◌}
use lib.Signed.{◌<ℤ◌}
use Rattle.integers.proofs.Identity.{terms}
use Rattle.integers.proofs.Signs.{<_diff, p*p}
use Rattle.integers.proofs.Order.{<_cert, ≡→≤, <→≢, neg-<}
use Rattle.fractions.specs.Order.{and_then}
use Rattle.fractions.specs.Point.{point_order}
use Rattle.std.specs.declared.cmp.Ordering.{Ordering}
use Rattle.std.specs.declared.cmp.Ordering.TheVariants.{Less, Equal, Greater}
use Rattle.fractions.specs.declared.Point.{Point}
use Rattle.fractions.proofs.Orders.{order_less, order_equal}
use Rattle.line_segment.specs.declared.LineSegment.{LineSegment}
use Rattle.line_segment.specs.Piece.{point_of, HasLength}
use Rattle.line_segment.specs.Geometry.{run, rise, side}
use Rattle.line_segment.proofs.Along.{Leads, rightward, upward, leads}
use Rattle.sweep.specs.Ported.{slope_order}
use Rattle.sweep_geometry.specs.Full.{full_height_order}
use Rattle.sweep_geometry.proofs.Gap.{gap_zero, gap_first, gap_second}
use Rattle.sweep_geometry.proofs.Heights.{above_standing, below_standing, height_by_gap}
use Rattle.sweep_geometry.proofs.Preceding.{under_height, over_height}
use Rattle.full_order.specs.Finer.{slant, slant_order}
use Rattle.full_order.proofs.Slants.{standing_slant, rising_slant}
use Rattle.full_order.proofs.Persisting.{upright_through}

-- through p nothing is overhead
through_slant : (p : Point) → 0 < p.d → (s : LineSegment) → Leads s → side s p ≡ pos 0 → slant p s ≡ rise s
through_slant p d s (rightward h) e = rising_slant p s d h (≡→≤ (sym e))
through_slant p d s (upward e k) z = standing_slant p s e

module _ (a b : LineSegment) (p : Point) (d : 0 < p.d) where
  through_height : Leads a → Leads b → side a p ≡ pos 0 → side b p ≡ pos 0 → full_height_order p a b ≡ Equal
  through_height (rightward ha) (rightward hb) e f = height_by_gap a b p d ha hb ∙ order_equal (sym (gap_zero a b p e f))
  through_height (rightward ha) (upward eb rb) e f = over_height a b p d ha eb ∙ order_equal (sym e)
  through_height (upward ea ra) (rightward hb) e f = under_height a b p d ea hb ∙ order_equal (sym (ap neg_ℤ f))
  through_height (upward ea ra) (upward eb rb) e f =
      unfold full_height_order in rw (above_standing a p ea, above_standing b p eb, below_standing a p ea, below_standing b p eb) (order_equal refl)

  pub both_through : HasLength a → HasLength b → side a p ≡ pos 0 → side b p ≡ pos 0 → (r : Ordering)
      → and_then (full_height_order p a b) (and_then (slant_order p a b) r) ≡ and_then (slope_order a b) r
  unfolding slant_order slope_order
  both_through la lb e f r =
      rw (through_height (leads a la) (leads b lb) e f, through_slant p d a (leads a la) e, through_slant p d b (leads b lb) f)

  pub below_first : HasLength a → HasLength b → ¬ (point_order (point_of a.min) p ≡ Greater) → ¬ (point_order p (point_of a.max) ≡ Greater)
      → pos 0 <ℤ side a p → side b p ≡ pos 0 → full_height_order p a b ≡ Less
  below_first la lb from upto k e = go (leads a la) (leads b lb)
    where
      go : Leads a → Leads b → full_height_order p a b ≡ Less
      go (rightward ha) (rightward hb) = height_by_gap a b p d ha hb ∙ order_less (subst (λ (z : ℤ). pos 0 <ℤ z) (sym (gap_second a b p e)) (p*p hb k))
      go (rightward ha) (upward eb rb) = over_height a b p d ha eb ∙ order_less k
      go (upward ea ra) lb = absurd (<→≢ k (sym (upright_through a p d from upto ea ra)))

  pub above_last : HasLength a → HasLength b → ¬ (point_order (point_of b.min) p ≡ Greater) → ¬ (point_order p (point_of b.max) ≡ Greater)
      → side a p ≡ pos 0 → side b p <ℤ pos 0 → full_height_order p a b ≡ Less
  above_last la lb from upto e k = go (leads a la) (leads b lb)
    where
      over : (u z : ℤ) → pos 0 <ℤ u → z <ℤ pos 0 → pos 0 <ℤ (pos 0 -ℤ u *ℤ z)
      over u z hu hz = <_cert (u ∷ z ∷ []) (p*p hu (<_diff hz)) (search terms depth 60 fits 20000) tt

      go : Leads a → Leads b → full_height_order p a b ≡ Less
      go (rightward ha) (rightward hb) = height_by_gap a b p d ha hb ∙ order_less (subst (λ (z : ℤ). pos 0 <ℤ z) (sym (gap_first a b p e)) (over (run a) (side b p) ha k))
      go (upward ea ra) (rightward hb) = under_height a b p d ea hb ∙ order_less (neg-< k)
      go la (upward eb rb) = absurd (<→≢ k (upright_through b p d from upto eb rb))
