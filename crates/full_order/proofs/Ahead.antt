-- Of two pieces that cross beyond p, the one that comes before the other at p is the steeper.
use mathlib.Core.Path.{◌≡◌, refl, sym, ap, ◌∙◌, subst}
use mathlib.Core.Logic.{⊎_elim}
use mathlib.Core.List.{[], ◌∷◌}
use Prim.Native.Nat.{ℕ, ◌/◌, ◌<◌}
use native.Mathlib.Nat.{div-le_self}
use native.Mathlib.Omega.{arith}
use lib.IntN.{ℤ, pos, ◌-ℤ◌, ◌*ℤ◌}
use lib.Signed.{◌<ℤ◌, clash_ℤ}
use Rattle.integers.proofs.Identity.{by_ring, terms}
use Rattle.integers.proofs.Order.{Tri, less, same, more, tri, <→≢}
use Rattle.integers.proofs.Factors.{m/p, zero_product}
use Rattle.integers.proofs.Lines.{stays_above}
use Rattle.integers.proofs.Naturals.{pos-<}
use Rattle.fractions.specs.Point.{point_order, lowest_of}
use Rattle.std.specs.declared.cmp.Ordering.{Ordering}
use Rattle.std.specs.declared.cmp.Ordering.TheVariants.{Less, Greater}
use Rattle.fractions.specs.declared.Point.{Point}
use Rattle.fractions.proofs.Orders.{order_greater}
use Rattle.fractions.proofs.Points.{Places, left, below, above, right, places}
use Rattle.fractions.proofs.Points.{same as even}
use Rattle.line_segment.specs.declared.LineSegment.{LineSegment}
use Rattle.line_segment.specs.declared.Meeting.TheVariants.{Crossing}
use Rattle.line_segment.specs.Piece.{point_of, HasLength}
use Rattle.line_segment.specs.Geometry.{run, rise, side}
use Rattle.line_segment.specs.Segment.{intersect_of, over, cramer_of, crossing_of}
use Rattle.line_segment.proofs.Along.{Leads, rightward, upward, leads}
use Rattle.line_segment.proofs.Lying.{not_zero, not_after}
use Rattle.line_segment.proofs.Sides.{tilt}
use Rattle.line_segment.specs.Demand.{OnlyPoint}
use Rattle.line_segment.proofs.Promises.{crossing_is_cramers}
use Rattle.sweep.specs.Ported.{slope_order}
use Rattle.sweep_geometry.proofs.Comparisons.{never}
use Rattle.sweep_geometry.proofs.Gap.{level, gap, gap_zero, slope_tilt, same_gap}
use Rattle.sweep_geometry.proofs.Slopes.{slope_down}
use Rattle.sweep_geometry.proofs.Heights.{zero_times, slope_by_tilt}
use Rattle.sweep_geometry.proofs.Uprights.{west_sloped, higher}
use Rattle.sweep_geometry.proofs.Preceding.{Precedes}
use Rattle.full_order.proofs.Slants.{Finer, finer_precedes, finer_behind}

-- parallel lines have 0 for Cramer's D
flat : (a b : LineSegment) → tilt a b ≡ pos 0 → (crossing_of a b).d ≡ 0
unfolding crossing_of cramer_of over lowest_of tilt
flat a b z = rw z (none _)
  where
    none : (g : ℕ) → 0 / g ≡ 0
    none g = omega (arith, div-le_self 0 g)

module _ (a b : LineSegment) (la : HasLength a) (lb : HasLength b) (p : Point) (dp : 0 < p.d) (r : Ordering) (h : Finer p a b r)
    (b_from : ¬ (point_order (point_of b.min) p ≡ Greater))
    (cross : intersect_of a b ≡ Crossing) (beyond : point_order p (crossing_of a b) ≡ Less) where
  abbrev c : Point
  c = crossing_of a b

  before : Precedes p a b
  before = finer_precedes a b p dp r h

  there : OnlyPoint a b c
  there = (crossing_is_cramers a b la lb cross).1

  dc : 0 < c.d
  dc = there.common.positive

  tilted : ¬ (tilt a b ≡ pos 0)
  tilted z = let e : c.d ≡ 0 = flat a b z in let d = dc in omega arith

  a_through : side a c ≡ pos 0
  a_through = there.common.first.line

  b_through : side b c ≡ pos 0
  b_through = there.common.second.line

  b_upto : ¬ (point_order c (point_of b.max) ≡ Greater)
  b_upto = not_after _ _ there.common.second.upto

  -- straight above p
  module _ (e : p.x *ℤ pos c.d ≡ c.x *ℤ pos p.d) (up : (p.y *ℤ pos c.d) <ℤ (c.y *ℤ pos p.d)) (ha : pos 0 <ℤ run a) where
    under_a : side a p <ℤ pos 0
    under_a =
        m/p (side a p) (pos-< dc)
        (subst (λ (z : ℤ). (side a p *ℤ pos c.d) <ℤ z) (ap (λ (z : ℤ). z *ℤ pos p.d) a_through ∙ zero_times (pos p.d)) (higher a p c e ha up))

  both_sloped : pos 0 <ℤ run a → pos 0 <ℤ run b → tilt a b <ℤ pos 0
  both_sloped ha hb = go (tri (tilt a b) (pos 0)) (places p c) beyond
    where
      g : gap a b c ≡ pos 0
      g = gap_zero a b c a_through b_through

      now : p.x *ℤ pos c.d ≡ c.x *ℤ pos p.d → gap a b p ≡ pos 0
      now e =
          ⊎_elim (λ (z : gap a b p ≡ pos 0). z) (λ (z : pos c.d ≡ pos 0). absurd (not_zero c.d dc z))
          (zero_product (gap a b p) (pos c.d)
          (same_gap (level a b) (tilt a b) p.x (pos p.d) c.x (pos c.d) e ∙ ap (λ (z : ℤ). z *ℤ pos p.d) g ∙ zero_times (pos p.d)))

      go : {o : Ordering} → Tri (tilt a b) (pos 0) → Places p c o → o ≡ Less → tilt a b <ℤ pos 0
      go (less t) q f = t
      go (same t) q f = absurd (tilted t)
      go (more t) (left w) f =
          absurd (<→≢ (stays_above (level a b) (tilt a b) p.x (pos p.d) c.x (pos c.d) (pos-< dp) (pos-< dc) w (before.sloped ha hb) t) (sym g))
      go (more t) (below e up) f = clash_ℤ (under_a e up ha) (finer_behind a b p dp r h ha hb (now e) t)
      go (more t) (even e s) f = never refl f (omega arith)
      go (more t) (above e s) f = never refl f (omega arith)
      go (more t) (right w) f = never refl f (omega arith)

  pub steeper : slope_order a b ≡ Greater
  steeper = go (leads a la) (leads b lb)
    where
      -- b upright, through c: c is at p's x, and p is not below a
      stands : pos 0 <ℤ run a → run b ≡ pos 0 → pos 0 <ℤ rise b → {o : Ordering} → Places p c o → o ≡ Less → ⊥
      stands ha eb rb (left w) f = <→≢ (west_sloped b p c dp dc b_from b_upto w (upward eb rb)) (sym eb)
      stands ha eb rb (below e up) f = clash_ℤ (under_a e up ha) (before.over ha eb)
      stands ha eb rb (even e s) f = never refl f (omega arith)
      stands ha eb rb (above e s) f = never refl f (omega arith)
      stands ha eb rb (right w) f = never refl f (omega arith)

      go : Leads a → Leads b → slope_order a b ≡ Greater
      go (rightward ha) (rightward hb) = slope_by_tilt a b p dp ∙ order_greater (both_sloped ha hb)
      go (rightward ha) (upward eb rb) = absurd (stands ha eb rb (places p c) beyond)
      go (upward ea ra) (rightward hb) = slope_down a b ea ra hb
      go (upward ea ra) (upward eb rb) = absurd (tilted (sym (slope_tilt a b) ∙ upright₀ (rise a) (rise b) ea eb))
        where
          upright₀ : (v v' : ℤ) {u u' : ℤ} → u ≡ pos 0 → u' ≡ pos 0 → v' *ℤ u -ℤ v *ℤ u' ≡ pos 0
          upright₀ v v' e f = rw (e, f) (by_ring (v ∷ v' ∷ []) (search terms depth 60 fits 20000) tt)
