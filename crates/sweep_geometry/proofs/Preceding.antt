-- What "a before b at p" says of where the two pieces lie, for every order by the full height, then by some slope.
use mathlib.Core.Path.{◌≡◌, refl, sym, ap, ◌∙◌}
use mathlib.Core.List.{[], ◌∷◌}
use Prim.Native.Nat.{◌<◌}
use native.Mathlib.Omega.{arith}
use lib.IntN.{ℤ, pos, neg_ℤ, ◌*ℤ◌}
use lib.Signed.{◌≤ℤ◌, ◌<ℤ◌}
use Rattle.integers.proofs.Identity.{terms}
use Rattle.integers.proofs.Signs.{<→≤}
use Rattle.integers.proofs.Order.{<_cert, ≡→≤}
use Rattle.integers.proofs.Naturals.{pos-<}
use Rattle.fractions.specs.Order.{order, and_then}
use Rattle.std.specs.declared.cmp.Ordering.{Ordering}
use Rattle.std.specs.declared.cmp.Ordering.TheVariants.{Less, Equal, Greater}
use Rattle.fractions.specs.declared.Point.{Point}
use Rattle.fractions.proofs.Orders.{Answer, is_less_lem, is_equal_lem, is_greater, answer, order_equal, order_greater}
use Rattle.line_segment.specs.declared.LineSegment.{LineSegment}
use Rattle.line_segment.specs.Geometry.{run, rise, side}
use Rattle.line_segment.proofs.Sides.{tilt}
use Rattle.sweep.specs.Ported.{slope_order}
use Rattle.sweep_geometry.specs.Full.{full_height_order}
use Rattle.sweep_geometry.proofs.Comparisons.{never, order_scaled}
use Rattle.sweep_geometry.proofs.Gap.{gap, below_side, above_side}
use Rattle.sweep_geometry.proofs.Slopes.{slope_down}
use Rattle.sweep_geometry.proofs.Heights.{above_sloped, below_sloped, above_standing, below_standing, order_diff, zero_times, slope_by_tilt, height_by_gap}

pub record Precedes (p : Point) (a b : LineSegment) : Type 0 where
  -- both sloped: b is not the lower, and if they have one height and a is the steeper, they meet ahead, above p
  pub sloped : pos 0 <ℤ run a → pos 0 <ℤ run b → pos 0 ≤ℤ gap a b p
  pub ahead : pos 0 <ℤ run a → pos 0 <ℤ run b → gap a b p ≡ pos 0 → tilt a b <ℤ pos 0 → side a p <ℤ pos 0
  -- a upright: p lies below b; b upright: p does not lie below a
  pub under : run a ≡ pos 0 → pos 0 <ℤ rise a → pos 0 <ℤ run b → side b p <ℤ pos 0
  pub over : pos 0 <ℤ run a → run b ≡ pos 0 → pos 0 ≤ℤ side a p

-- of an answer that is Less by one and then another: the first is not Greater, and where it is Equal the second is Less
pub not_first : {A : Type 0} (o r : Ordering) → and_then o r ≡ Less → o ≡ Greater → A
not_first Less r e f = never refl f (omega arith)
not_first Equal r e f = never refl f (omega arith)
not_first Greater r e f = never refl e (omega arith)

pub then_second : (o r : Ordering) → and_then o r ≡ Less → o ≡ Equal → r ≡ Less
then_second Less r e f = never refl f (omega arith)
then_second Equal r e f = e
then_second Greater r e f = never refl e (omega arith)

at_least : (z : ℤ) → ¬ (order (pos 0) z ≡ Greater) → pos 0 ≤ℤ z
at_least z f = go (answer (pos 0) z) f
  where
    go : {o : Ordering} → Answer (pos 0) z o → ¬ (o ≡ Greater) → pos 0 ≤ℤ z
    go (is_less_lem h) f = <→≤ h
    go (is_equal_lem e) f = ≡→≤ e
    go (is_greater h) f = absurd (f refl)

module _ (a b : LineSegment) (p : Point) (dp : 0 < p.d) where
  unscaled : (z : ℤ) → order (pos 0) (z *ℤ pos p.d) ≡ order (pos 0) z
  unscaled z = sym (order_scaled (pos 0) z (pos p.d) (pos-< dp) ∙ ap (λ (w : ℤ). order w (z *ℤ pos p.d)) (zero_times (pos p.d)))

  -- an upright piece's height is p's y: by the side of the other on which p lies
  pub under_height : run a ≡ pos 0 → pos 0 <ℤ run b → full_height_order p a b ≡ order (pos 0) (neg_ℤ (side b p))
  unfolding full_height_order
  under_height ea hb =
      rw (above_standing a p ea, above_sloped b p hb, below_standing a p ea, below_sloped b p hb)
      (order_diff _ _ ∙ ap (order (pos 0)) (below_side b p) ∙ unscaled (neg_ℤ (side b p)))

  pub over_height : pos 0 <ℤ run a → run b ≡ pos 0 → full_height_order p a b ≡ order (pos 0) (side a p)
  unfolding full_height_order
  over_height ha eb =
      rw (above_standing b p eb, above_sloped a p ha, below_standing b p eb, below_sloped a p ha)
      (order_diff _ _ ∙ ap (order (pos 0)) (above_side a p) ∙ unscaled (side a p))

  -- by the height, then by some slope by which an upright piece comes after a sloped one, then by r
  module _ (lean r : Ordering) (down : run a ≡ pos 0 → pos 0 <ℤ rise a → pos 0 <ℤ run b → lean ≡ Greater)
      (meet : pos 0 <ℤ run a → pos 0 <ℤ run b → gap a b p ≡ pos 0 → tilt a b <ℤ pos 0 → ¬ (lean ≡ Greater) → side a p <ℤ pos 0)
      (h : and_then (full_height_order p a b) (and_then lean r) ≡ Less) where
    by_under : run a ≡ pos 0 → pos 0 <ℤ rise a → pos 0 <ℤ run b → side b p <ℤ pos 0
    by_under ea ra hb = go (answer (pos 0) (neg_ℤ (side b p))) (under_height ea hb)
      where
        go : {o : Ordering} → Answer (pos 0) (neg_ℤ (side b p)) o → full_height_order p a b ≡ o → side b p <ℤ pos 0
        go (is_less_lem g) e = <_cert (side b p ∷ []) g (search terms depth 60 fits 20000) tt
        go (is_equal_lem g) e = not_first lean r (then_second (full_height_order p a b) (and_then lean r) h e) (down ea ra hb)
        go (is_greater g) e = not_first (full_height_order p a b) (and_then lean r) h e

    pub precedes : Precedes p a b
    precedes =
        record {
          sloped = λ ha hb. at_least (gap a b p) (λ g. not_first (full_height_order p a b) (and_then lean r) h (height_by_gap a b p dp ha hb ∙ g));
          ahead = λ ha hb e t.
              meet ha hb e t (λ g. not_first lean r (then_second (full_height_order p a b) (and_then lean r) h (height_by_gap a b p dp ha hb ∙ order_equal (sym e))) g);
          under = by_under;
          over = λ ha eb. at_least (side a p) (λ g. not_first (full_height_order p a b) (and_then lean r) h (over_height ha eb ∙ g));
        }

  -- by rising slope nothing meets ahead
  pub full_precedes : (r : Ordering) → and_then (full_height_order p a b) (and_then (slope_order a b) r) ≡ Less → Precedes p a b
  full_precedes r =
      precedes (slope_order a b) r (slope_down a b) (λ ha hb e t g. absurd (g (slope_by_tilt a b p dp ∙ order_greater t)))
