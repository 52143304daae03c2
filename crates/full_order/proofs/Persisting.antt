-- Two pieces, a before b at l, that do not cross strictly between l and the next point p: on which sides of them p lies
-- (`below`, `above`), and that they stay in order unless both go through p (`ordered`).
use mathlib.Core.Path.{◌≡◌, refl, sym, ap, ◌∙◌, subst}
use mathlib.Core.Logic.{⊎_elim}
use mathlib.Core.List.{[], ◌∷◌}
use Prim.Native.Nat.{◌<◌}
use native.Mathlib.Omega.{arith}
use lib.IntN.{ℤ, pos, ◌+ℤ◌, ◌-ℤ◌, ◌*ℤ◌}
use lib.Signed.{◌≤ℤ◌, ◌<ℤ◌, clash_ℤ}
use Rattle.integers.proofs.Identity.{by_ring, terms}
use Rattle.integers.proofs.Signs.{<_diff, <→≤, n*n, p*p, n+p}
use Rattle.integers.proofs.Order.{<_cert, Tri, less, same, more, tri, ≡→≤, ≤-<_trans, <→≢, ≮→≥, ≤-≢→<, neg-<}
use Rattle.integers.proofs.Factors.{p/p, m/p, n/p, zero_product}
use Rattle.integers.proofs.Lines.{at, stays_above}
use Rattle.integers.proofs.Ratios.{ratio-<-≤_trans}
use Rattle.integers.proofs.Naturals.{pos-<}
use Rattle.fractions.specs.Order.{and_then}
use Rattle.fractions.specs.Point.{point_order}
use Rattle.std.specs.declared.cmp.Ordering.{Ordering}
use Rattle.std.specs.declared.cmp.Ordering.TheVariants.{Less, Greater}
use Rattle.fractions.specs.declared.Point.{Point}
use Rattle.fractions.proofs.Orders.{order_less, order_equal}
use Rattle.fractions.proofs.Points.{Places, left, below, above, right, places, placed, at_most_less}
use Rattle.fractions.proofs.Points.{same as even}
use Rattle.line_segment.specs.declared.LineSegment.{LineSegment}
use Rattle.line_segment.specs.Piece.{point_of, HasLength}
use Rattle.line_segment.specs.Geometry.{run, rise, side}
use Rattle.line_segment.specs.Segment.{cramer_of}
use Rattle.line_segment.proofs.Along.{Leads, rightward, upward, leads}
use Rattle.line_segment.proofs.Lying.{whole, not_zero}
use Rattle.line_segment.proofs.Sides.{tilt}
use Rattle.line_segment.proofs.CramersPoint.{cramer_first, cramer_second, cramer_positive}
use Rattle.sweep_geometry.specs.Full.{full_height_order}
use Rattle.sweep_geometry.proofs.Comparisons.{never}
use Rattle.sweep_geometry.proofs.Gap.{level, gap, gap_sides, same_gap}
use Rattle.sweep_geometry.proofs.Heights.{zero_times, height_by_gap}
use Rattle.sweep_geometry.proofs.Preceding.{Precedes, then_second, under_height, over_height}
use Rattle.sweep_geometry.proofs.Uprights.{west_sloped, standing_x, higher, upright_on}
use Rattle.sweep_geometry.proofs.Turning.{CrossIn, cross_in, meet_x, meet_above, meet_below, turning, upright_cross}
use Rattle.full_order.specs.Finer.{slant_order}
use Rattle.full_order.proofs.Slants.{Finer, finer_precedes, finer_behind, also_on, rising, falling, level_slant}

pub record Stays (p : Point) (a b : LineSegment) (r : Ordering) : Type 0 where
  pub below : side a p <ℤ pos 0 → side b p <ℤ pos 0
  pub above : pos 0 <ℤ side b p → pos 0 <ℤ side a p
  pub ordered : ¬ ((side a p ≡ pos 0) × (side b p ≡ pos 0)) → Finer p a b r

-- a point between the ends of an upright piece is on it
pub upright_through : (s : LineSegment) (p : Point) → 0 < p.d → ¬ (point_order (point_of s.min) p ≡ Greater) → ¬ (point_order p (point_of s.max) ≡ Greater)
    → run s ≡ pos 0 → pos 0 <ℤ rise s → side s p ≡ pos 0
upright_through s p d from upto e h = upright_on s e h p (standing_x s p p d d from upto refl e).0

-- a gap that is 0 somewhere, of parallel lines, is 0 everywhere
level_gap : (l t X D X' D' : ℤ) → ¬ (D' ≡ pos 0) → t ≡ pos 0 → at l t X' D' ≡ pos 0 → at l t X D ≡ pos 0
level_gap l t X D X' D' nz e f =
    ⊎_elim (λ (z : at l t X D ≡ pos 0). z) (λ (z : D' ≡ pos 0). absurd (nz z))
    (zero_product (at l t X D) D'
    (by_ring (l ∷ t ∷ X ∷ D ∷ X' ∷ D' ∷ []) {a = at l t X D *ℤ D'} {b = at l t X' D' *ℤ D +ℤ t *ℤ (X *ℤ D' -ℤ X' *ℤ D)} (search terms depth 60 fits 20000) tt
    ∙ rw (f, e) (by_ring (X ∷ D ∷ X' ∷ D' ∷ []) (search terms depth 60 fits 20000) tt)))

module _ (a b : LineSegment) (la : HasLength a) (lb : HasLength b) (l p : Point) (dl : 0 < l.d) (dp : 0 < p.d)
    (af : ¬ (point_order (point_of a.min) l ≡ Greater)) (bf : ¬ (point_order (point_of b.min) l ≡ Greater))
    (au : ¬ (point_order p (point_of a.max) ≡ Greater)) (bu : ¬ (point_order p (point_of b.max) ≡ Greater))
    (r : Ordering) (h : Finer l a b r) (onward : point_order l p ≡ Less) (apart : ¬ CrossIn a b l p) where
  before : Precedes l a b
  before = finer_precedes a b l dl r h

  -- ---- p further along x, or straight above l
  abbrev West : Type 0
  West = (l.x *ℤ pos p.d) <ℤ (p.x *ℤ pos l.d)

  abbrev One : Type 0
  One = l.x *ℤ pos p.d ≡ p.x *ℤ pos l.d

  abbrev Up : Type 0
  Up = (l.y *ℤ pos p.d) <ℤ (p.y *ℤ pos l.d)

  onwards : {A : Type 0} → (West → A) → (One → Up → A) → A
  onwards {A} f g = go (places l p) onward
    where
      go : {o : Ordering} → Places l p o → o ≡ Less → A
      go (left w) e = f w
      go (below x y) e = g x y
      go (even x y) e = never refl e (omega arith)
      go (above x y) e = never refl e (omega arith)
      go (right w) e = never refl e (omega arith)

  through : (s : LineSegment) → ¬ (point_order (point_of s.min) l ≡ Greater) → ¬ (point_order p (point_of s.max) ≡ Greater) → run s ≡ pos 0 → pos 0 <ℤ rise s → side s p ≡ pos 0
  through s from upto = upright_through s p dp (λ g. never (at_most_less (point_of s.min) l p (whole s.min) dl dp from onward) g (omega arith)) upto

  -- an upright piece has l and p at its x
  no_west : {A : Type 0} (s : LineSegment) → ¬ (point_order (point_of s.min) l ≡ Greater) → ¬ (point_order p (point_of s.max) ≡ Greater) → run s ≡ pos 0 → pos 0 <ℤ rise s → West → A
  no_west s from upto e k w = absurd (<→≢ (west_sloped s l p dl dp from upto w (upward e k)) (sym e))

  climbed : One → Up → pos 0 <ℤ run a → pos 0 ≤ℤ side a l → pos 0 <ℤ side a p
  climbed x y ha k = p/p (side a p) (pos-< dl) (≤-<_trans (n*n k (<→≤ (pos-< dp))) (higher a l p x ha y))

  -- ---- the sides
  gap_on : One → gap a b l *ℤ pos p.d ≡ gap a b p *ℤ pos l.d
  gap_on x = same_gap (level a b) (tilt a b) l.x (pos l.d) p.x (pos p.d) x

  still_over : pos 0 <ℤ run a → pos 0 <ℤ run b → pos 0 ≤ℤ gap a b p
  still_over ha hb =
      onwards
      (λ w. ≮→≥ (λ k. apart (turning a b l p dl dp la lb af bf au bu before ha hb w k)))
      (λ x y. n/p (gap a b p) (pos-< dl) (subst (λ (z : ℤ). pos 0 ≤ℤ z) (gap_on x) (n*n (before.sloped ha hb) (<→≤ (pos-< dp)))))

  -- a upright, b upright
  still_under : run a ≡ pos 0 → pos 0 <ℤ rise a → pos 0 <ℤ run b → side b p ≤ℤ pos 0
  still_under ea ra hb =
      onwards (no_west a af au ea ra) (λ x y. ≮→≥ (λ g. apart (upright_cross a b l p dl dp la lb af bf au bu before x ea ra hb g)))

  passed : pos 0 <ℤ run a → run b ≡ pos 0 → pos 0 <ℤ rise b → pos 0 <ℤ side a p
  passed ha eb rb = onwards (no_west b bf bu eb rb) (λ x y. climbed x y ha (before.over ha eb))

  below_stays : side a p <ℤ pos 0 → side b p <ℤ pos 0
  below_stays k = go (leads a la) (leads b lb)
    where
      down : (x y u v : ℤ) → pos 0 <ℤ u → pos 0 <ℤ v → pos 0 ≤ℤ (v *ℤ x -ℤ u *ℤ y) → x <ℤ pos 0 → y <ℤ pos 0
      down x y u v hu hv g k = m/p y hu (<_cert (x ∷ y ∷ u ∷ v ∷ []) (n+p g (p*p (<_diff k) hv)) (search terms depth 60 fits 20000) tt)

      go : Leads a → Leads b → side b p <ℤ pos 0
      go (rightward ha) (rightward hb) = down (side a p) (side b p) (run a) (run b) ha hb (subst (λ (z : ℤ). pos 0 ≤ℤ z) (gap_sides a b p) (still_over ha hb)) k
      go (rightward ha) (upward eb rb) = clash_ℤ k (<→≤ (passed ha eb rb))
      go (upward ea ra) lb = absurd (<→≢ k (through a af au ea ra))

  above_stays : pos 0 <ℤ side b p → pos 0 <ℤ side a p
  above_stays k = go (leads a la) (leads b lb)
    where
      up : (x y u v : ℤ) → pos 0 <ℤ u → pos 0 <ℤ v → pos 0 ≤ℤ (v *ℤ x -ℤ u *ℤ y) → pos 0 <ℤ y → pos 0 <ℤ x
      up x y u v hu hv g k = p/p x hv (<_cert (x ∷ y ∷ u ∷ v ∷ []) (n+p g (p*p k hu)) (search terms depth 60 fits 20000) tt)

      go : Leads a → Leads b → pos 0 <ℤ side a p
      go (rightward ha) (rightward hb) = up (side a p) (side b p) (run a) (run b) ha hb (subst (λ (z : ℤ). pos 0 ≤ℤ z) (gap_sides a b p) (still_over ha hb)) k
      go (rightward ha) (upward eb rb) = passed ha eb rb
      go (upward ea ra) (rightward hb) = clash_ℤ k (still_under ea ra hb)
      go (upward ea ra) (upward eb rb) = absurd (<→≢ k (sym (through b bf bu eb rb)))

  -- ---- the order
  by_height : full_height_order p a b ≡ Less → Finer p a b r
  by_height e = rw e

  module _ (ha : pos 0 <ℤ run a) (hb : pos 0 <ℤ run b) (g : gap a b p ≡ pos 0) where
    by_slant : slant_order p a b ≡ Less → Finer p a b r
    by_slant e = rw (height_by_gap a b p dp ha hb ∙ order_equal (sym g), e)

    gap_then : One → gap a b l ≡ pos 0
    gap_then x =
        ⊎_elim (λ (z : gap a b l ≡ pos 0). z) (λ (z : pos p.d ≡ pos 0). absurd (not_zero p.d dp z))
        (zero_product (gap a b l) (pos p.d) (gap_on x ∙ ap (λ (z : ℤ). z *ℤ pos l.d) g ∙ zero_times (pos l.d)))

    -- at l too the two had one height, so that the slant decided, then the number
    then_slant : gap a b l ≡ pos 0 → and_then (slant_order l a b) r ≡ Less
    then_slant e = then_second (full_height_order l a b) (and_then (slant_order l a b) r) h (height_by_gap a b l dl ha hb ∙ order_equal (sym e))

    parallel : tilt a b ≡ pos 0 → Finer p a b r
    parallel t =
        let e = level_gap (level a b) (tilt a b) l.x (pos l.d) p.x (pos p.d) (not_zero p.d dp) t g in
        rw (height_by_gap a b p dp ha hb ∙ order_equal (sym g), level_slant a b p dp ha hb g t)
        (then_second (slant_order l a b) r (then_slant e) (level_slant a b l dl ha hb e t))

    -- a steeper: they meet above p; below p would be strictly between l and p
    closing : ¬ ((side a p ≡ pos 0) × (side b p ≡ pos 0)) → tilt a b <ℤ pos 0 → Finer p a b r
    closing n t = go (tri (side a p) (pos 0))
      where
        q : Point
        q = cramer_of a b

        after : point_order l q ≡ Less
        after =
            onwards
            (λ w. placed (left (ratio-<-≤_trans l.x (pos l.d) p.x (pos p.d) q.x (pos q.d) (pos-< dl) (pos-< dp) (pos-< (cramer_positive a b (<→≢ t))) w (≡→≤ (meet_x a b p dp ha (<→≢ t) g)))))
            (λ x y. meet_above a b l dl ha (<→≢ t) (gap_then x) (before.ahead ha hb (gap_then x) t))

        go : Tri (side a p) (pos 0) → Finer p a b r
        go (less k) = by_slant (falling a b p dp ha hb g k ∙ order_less t)
        go (same k) = absurd (n (k, also_on a b p dp ha hb g k))
        go (more k) =
            absurd (apart (cross_in a b la lb l p dl dp af bf au bu (<→≢ t) q (cramer_positive a b (<→≢ t)) (cramer_first a b) (cramer_second a b) after
            (meet_below a b p dp ha (<→≢ t) g k)))

    -- b steeper: they have met at or before l
    opening : pos 0 <ℤ tilt a b → Finer p a b r
    opening t =
        onwards
        (λ w. absurd (<→≢ (stays_above (level a b) (tilt a b) l.x (pos l.d) p.x (pos p.d) (pos-< dl) (pos-< dp) w (before.sloped ha hb) t) (sym g)))
        (λ x y. by_slant (rising a b p dp ha hb g (<→≤ (climbed x y ha (finer_behind a b l dl r h ha hb (gap_then x) t))) ∙ order_less t))

  persists : ¬ ((side a p ≡ pos 0) × (side b p ≡ pos 0)) → Finer p a b r
  persists n = go (leads a la) (leads b lb)
    where
      sloped : pos 0 <ℤ run a → pos 0 <ℤ run b → Tri (pos 0) (gap a b p) → Tri (tilt a b) (pos 0) → Finer p a b r
      sloped ha hb (less g) t = by_height (height_by_gap a b p dp ha hb ∙ order_less g)
      sloped ha hb (same g) (less t) = closing ha hb (sym g) n t
      sloped ha hb (same g) (same t) = parallel ha hb (sym g) t
      sloped ha hb (same g) (more t) = opening ha hb (sym g) t
      sloped ha hb (more g) t = clash_ℤ g (still_over ha hb)

      go : Leads a → Leads b → Finer p a b r
      go (rightward ha) (rightward hb) = sloped ha hb (tri (pos 0) (gap a b p)) (tri (tilt a b) (pos 0))
      go (rightward ha) (upward eb rb) = by_height (over_height a b p dp ha eb ∙ order_less (passed ha eb rb))
      go (upward ea ra) (rightward hb) =
          by_height (under_height a b p dp ea hb ∙ order_less (neg-< (≤-≢→< (still_under ea ra hb) (λ z. n (through a af au ea ra, z)))))
      go (upward ea ra) (upward eb rb) = absurd (n (through a af au ea ra, through b bf bu eb rb))

  pub stays : Stays p a b r
  stays = record { below = below_stays; above = above_stays; ordered = persists }
