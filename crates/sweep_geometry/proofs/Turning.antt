-- Two pieces whose order has turned round between p and c cross strictly between the two: both sloped (`turning`), or the
-- first upright (`upright_cross`).
use mathlib.Core.Path.{◌≡◌, refl, sym, ap, ◌∙◌, subst}
use mathlib.Core.Bool.{true}
use mathlib.Core.List.{[], ◌∷◌}
use Prim.Native.Nat.{ℕ, ◌<◌}
use native.Mathlib.Omega.{arith}
use lib.IntN.{◌-ℤ◌, ℤ, pos, neg_ℤ, ◌*ℤ◌}
use lib.Signed.{◌<ℤ◌, clash_ℤ}
use Rattle.integers.proofs.Identity.{by_ring, terms}
use Rattle.integers.proofs.Signs.{<_diff, <→≤, p*p}
use Rattle.integers.proofs.Order.{<_cert, Tri, less, same, more, tri, ≡→≤, <→≢}
use Rattle.integers.proofs.Factors.{*_cancel-<, m*p}
use Rattle.integers.proofs.Lines.{at, Between, falls, root_down}
use Rattle.integers.proofs.Ratios.{ratio-≤-<_trans}
use Rattle.integers.proofs.Naturals.{pos-<}
use Rattle.fractions.specs.Point.{point_order}
use Rattle.std.specs.declared.cmp.Ordering.TheVariants.{Less, Equal, Greater}
use Rattle.fractions.specs.declared.Point.{Point}
use Rattle.fractions.proofs.Points.{placed, left, below, at_most_less, less_at_most, point_alike, point_alike'}
use Rattle.line_segment.specs.declared.LineSegment.{LineSegment}
use Rattle.line_segment.specs.declared.Meeting.{Meeting}
use Rattle.line_segment.specs.declared.Meeting.TheVariants.{Nothing, Crossing, Overlap}
use Rattle.line_segment.specs.Piece.{point_of, HasLength}
use Rattle.line_segment.specs.Geometry.{run, rise, side, Common}
use Rattle.line_segment.specs.Segment.{intersect_of, cramer_of, crossing_of}
use Rattle.line_segment.specs.Demand.{says_yes, says_overlap, OnlyPoint}
use Rattle.line_segment.proofs.Promises.{says_yes_exactly, overlap_exactly, crossing_is_cramers}
use Rattle.line_segment.proofs.Along.{leads}
use Rattle.line_segment.proofs.Lying.{whole, lies_inside}
use Rattle.line_segment.proofs.Sides.{tilt, one_point}
use Rattle.line_segment.proofs.TwoLines.{level as parallel}
use Rattle.line_segment.proofs.CramersPoint.{cramer_first, cramer_second, cramer_positive}
use Rattle.sweep_geometry.proofs.Gap.{level, gap, gap_zero, slope_tilt, zeros_x}
use Rattle.sweep_geometry.proofs.Heights.{zero_times}
use Rattle.sweep_geometry.proofs.Preceding.{Precedes}
use Rattle.sweep_geometry.proofs.Uprights.{standing_x, lower, on_upright, one_x}

-- a yes that is no overlap is a crossing
pub crossing_of_lem : (m : Meeting) → says_yes m ≡ true → ¬ (says_overlap m ≡ true) → m ≡ Crossing
crossing_of_lem Nothing e f = absurd (let z : ◌≡◌ {A = ℕ} 0 1 = cc in omega arith)
crossing_of_lem Crossing e f = refl
crossing_of_lem (Overlap s) e f = absurd (f refl)

-- a and b cross strictly between p and c
pub record CrossIn (a b : LineSegment) (p c : Point) : Type 0 where
  pub cross : intersect_of a b ≡ Crossing
  pub after : point_order p (crossing_of a b) ≡ Less
  pub until : point_order (crossing_of a b) c ≡ Less

-- a point strictly between p and c that is on both lines
module _ (a b : LineSegment) (la : HasLength a) (lb : HasLength b) (p c : Point) (dp : 0 < p.d) (dc : 0 < c.d)
    (a_from : ¬ (point_order (point_of a.min) p ≡ Greater)) (b_from : ¬ (point_order (point_of b.min) p ≡ Greater))
    (a_upto : ¬ (point_order c (point_of a.max) ≡ Greater)) (b_upto : ¬ (point_order c (point_of b.max) ≡ Greater))
    (tilted : ¬ (tilt a b ≡ pos 0)) where
  pub cross_in : (r : Point) → 0 < r.d → side a r ≡ pos 0 → side b r ≡ pos 0 → point_order p r ≡ Less → point_order r c ≡ Less → CrossIn a b p c
  cross_in r dr e f p-r r-c =
      let both : Common a b r =
      record {
        positive = dr;
        first = lies_inside a r e (at_most_less (point_of a.min) p r (whole a.min) dp dr a_from p-r) (less_at_most r c (point_of a.max) dr dc (whole a.max) r-c a_upto);
        second = lies_inside b r f (at_most_less (point_of b.min) p r (whole b.min) dp dr b_from p-r) (less_at_most r c (point_of b.max) dr dc (whole b.max) r-c b_upto);
      }
      in
      let cross : intersect_of a b ≡ Crossing =
      crossing_of_lem (intersect_of a b) ((says_yes_exactly a b la lb).1 (r, both)) (λ o. tilted (parallel a b (leads a la) ((overlap_exactly a b la lb).0 o).0))
      in
      let m : OnlyPoint a b (crossing_of a b) = (crossing_is_cramers a b la lb cross).1 in
      let dm : 0 < (crossing_of a b).d = m.common.positive in
      let o : point_order r (crossing_of a b) ≡ Equal = one_point a b tilted r (crossing_of a b) e f m.common.first.line m.common.second.line in
      record {
        cross = cross;
        after = sym (point_alike' p r (crossing_of a b) dr dm o) ∙ p-r;
        until = sym (point_alike r (crossing_of a b) c dr dm o) ∙ r-c;
      }

-- where the gap is 0, at X over D, is level over - tilt: it lies where that lies
module _ (l t X D n m : ℤ) (pd : pos 0 <ℤ D) (pt : pos 0 <ℤ neg_ℤ t) (e : at l t X D ≡ pos 0) where
  moved : X *ℤ m *ℤ neg_ℤ t ≡ l *ℤ m *ℤ D
  moved =
      by_ring (l ∷ t ∷ X ∷ D ∷ m ∷ []) {a = X *ℤ m *ℤ neg_ℤ t} {b = l *ℤ m *ℤ D -ℤ at l t X D *ℤ m} (search terms depth 60 fits 20000) tt
      ∙ rw e (by_ring (l ∷ D ∷ m ∷ []) (search terms depth 60 fits 20000) tt)

  carry_left : (n *ℤ neg_ℤ t) <ℤ (l *ℤ m) → (n *ℤ D) <ℤ (X *ℤ m)
  carry_left h =
      *_cancel-< (n *ℤ D) (X *ℤ m) (neg_ℤ t) (<→≤ pt)
      (subst (λ (z : ℤ). (n *ℤ D *ℤ neg_ℤ t) <ℤ z) (sym moved)
      (<_cert (l ∷ t ∷ X ∷ D ∷ n ∷ m ∷ []) (p*p (<_diff h) pd) (search terms depth 60 fits 20000) tt))

  carry_right : (l *ℤ m) <ℤ (n *ℤ neg_ℤ t) → (X *ℤ m) <ℤ (n *ℤ D)
  carry_right h =
      *_cancel-< (X *ℤ m) (n *ℤ D) (neg_ℤ t) (<→≤ pt)
      (subst (λ (z : ℤ). z <ℤ (n *ℤ D *ℤ neg_ℤ t)) (sym moved)
      (<_cert (l ∷ t ∷ X ∷ D ∷ n ∷ m ∷ []) (p*p (<_diff h) pd) (search terms depth 60 fits 20000) tt))

-- ---- where two lines of different slopes meet, if it is at p's x
module _ (a b : LineSegment) (p : Point) (dp : 0 < p.d) (ha : pos 0 <ℤ run a) (tilted : ¬ (tilt a b ≡ pos 0)) (g : gap a b p ≡ pos 0) where
  abbrev meet : Point
  meet = cramer_of a b

  meet_d : 0 < meet.d
  meet_d = cramer_positive a b tilted

  pub meet_x : p.x *ℤ pos meet.d ≡ meet.x *ℤ pos p.d
  meet_x = zeros_x (level a b) (tilt a b) p.x (pos p.d) meet.x (pos meet.d) tilted g (gap_zero a b meet (cramer_first a b) (cramer_second a b))

  -- above p where p lies below a, and the other way round
  pub meet_above : side a p <ℤ pos 0 → point_order p meet ≡ Less
  meet_above h =
      placed (below meet_x (lower a p meet meet_x ha
      (subst (λ (z : ℤ). (side a p *ℤ pos meet.d) <ℤ (z *ℤ pos p.d)) (sym (cramer_first a b))
      (subst (λ (z : ℤ). (side a p *ℤ pos meet.d) <ℤ z) (sym (zero_times (pos p.d))) (m*p h (pos-< meet_d))))))

  pub meet_below : pos 0 <ℤ side a p → point_order meet p ≡ Less
  meet_below h =
      placed (below (sym meet_x) (lower a meet p (sym meet_x) ha
      (subst (λ (z : ℤ). (z *ℤ pos p.d) <ℤ (side a p *ℤ pos meet.d)) (sym (cramer_first a b))
      (subst (λ (z : ℤ). z <ℤ (side a p *ℤ pos meet.d)) (sym (zero_times (pos p.d))) (p*p h (pos-< meet_d))))))

-- ---- a before b at p
module _ (a b : LineSegment) (p c : Point) (dp : 0 < p.d) (dc : 0 < c.d) (la : HasLength a) (lb : HasLength b)
    (af : ¬ (point_order (point_of a.min) p ≡ Greater)) (bf : ¬ (point_order (point_of b.min) p ≡ Greater))
    (au : ¬ (point_order c (point_of a.max) ≡ Greater)) (bu : ¬ (point_order c (point_of b.max) ≡ Greater)) (h : Precedes p a b) where
  -- both sloped, and a above b at c, further along x: they meet between by x, or straight above p
  module _ (ha : pos 0 <ℤ run a) (hb : pos 0 <ℤ run b) (west : (p.x *ℤ pos c.d) <ℤ (c.x *ℤ pos p.d)) (k : gap a b c <ℤ pos 0) where
    meets_between : (tilted : ¬ (tilt a b ≡ pos 0)) → point_order p (cramer_of a b) ≡ Less → point_order (cramer_of a b) c ≡ Less → CrossIn a b p c
    meets_between tilted = cross_in a b la lb p c dp dc af bf au bu tilted (cramer_of a b) (cramer_positive a b tilted) (cramer_first a b) (cramer_second a b)

    between : Between (level a b) (neg_ℤ (tilt a b)) p.x (pos p.d) c.x (pos c.d) → CrossIn a b p c
    between w =
        let tilted : ¬ (tilt a b ≡ pos 0) = λ e. <→≢ w.under (sym (ap neg_ℤ e)) in
        let q : Point = cramer_of a b in
        let d : 0 < q.d = cramer_positive a b tilted in
        let z : gap a b q ≡ pos 0 = gap_zero a b q (cramer_first a b) (cramer_second a b) in
        meets_between tilted
        (placed (left (carry_left (level a b) (tilt a b) q.x (pos q.d) p.x (pos p.d) (pos-< d) w.under z w.left)))
        (placed (left (carry_right (level a b) (tilt a b) q.x (pos q.d) c.x (pos c.d) (pos-< d) w.under z w.right)))

    straight_above : gap a b p ≡ pos 0 → CrossIn a b p c
    straight_above g =
        let t = falls (level a b) (tilt a b) p.x (pos p.d) c.x (pos c.d) (pos-< dp) (pos-< dc) west (≡→≤ (sym g)) k in
        let q : Point = cramer_of a b in
        let x = meet_x a b p dp ha (<→≢ t) g in
        meets_between (<→≢ t) (meet_above a b p dp ha (<→≢ t) g (h.ahead ha hb g t))
        (placed (left (ratio-≤-<_trans q.x (pos q.d) p.x (pos p.d) c.x (pos c.d) (pos-< (cramer_positive a b (<→≢ t))) (pos-< dp) (pos-< dc) (≡→≤ (sym x)) west)))

    pub turning : CrossIn a b p c
    turning = go (tri (pos 0) (gap a b p))
      where
        go : Tri (pos 0) (gap a b p) → CrossIn a b p c
        go (less g) = between (root_down (level a b) (tilt a b) p.x (pos p.d) c.x (pos c.d) (pos-< dp) (pos-< dc) west g k)
        go (same g) = straight_above (sym g)
        go (more g) = clash_ℤ g (h.sloped ha hb)

  -- a upright, through p and c, which lie on the two sides of b
  pub upright_cross : p.x *ℤ pos c.d ≡ c.x *ℤ pos p.d → run a ≡ pos 0 → pos 0 <ℤ rise a → pos 0 <ℤ run b → pos 0 <ℤ side b c → CrossIn a b p c
  upright_cross e ea ra hb g =
      let x = standing_x a p c dp dc af au e ea in
      let t : neg_ℤ (tilt a b) ≡ rise a *ℤ run b = ap neg_ℤ (sym (slope_tilt a b)) ∙ straight (rise b) (run a) (rise a) (run b) ea in
      let under : pos 0 <ℤ neg_ℤ (tilt a b) = subst (λ (z : ℤ). pos 0 <ℤ z) (sym t) (p*p ra hb) in
      let tilted : ¬ (tilt a b ≡ pos 0) = λ z. <→≢ under (sym (ap neg_ℤ z)) in
      let q : Point = cramer_of a b in
      let dr : 0 < q.d = cramer_positive a b tilted in
      let on_a : side a q ≡ pos 0 = cramer_first a b in
      let on_b : side b q ≡ pos 0 = cramer_second a b in
      let xq = on_upright a ea ra q on_a in
      let p_q = one_x a.min.x p.x (pos p.d) q.x (pos q.d) x.0 xq in
      let q_c = one_x a.min.x q.x (pos q.d) c.x (pos c.d) xq x.1 in
      cross_in a b la lb p c dp dc af bf au bu tilted q dr on_a on_b
      (placed (below p_q (lower b p q p_q hb (subst (λ (z : ℤ). (side b p *ℤ pos q.d) <ℤ (z *ℤ pos p.d)) (sym on_b) (subst (λ (z : ℤ). (side b p *ℤ pos q.d) <ℤ z) (sym (zero_times (pos p.d))) (m*p (h.under ea ra hb) (pos-< dr)))))))
      (placed (below q_c (lower b q c q_c hb (subst (λ (z : ℤ). (z *ℤ pos c.d) <ℤ (side b c *ℤ pos q.d)) (sym on_b) (subst (λ (z : ℤ). z <ℤ (side b c *ℤ pos q.d)) (sym (zero_times (pos c.d))) (p*p g (pos-< dr)))))))
    where
      straight : (s u v w : ℤ) → u ≡ pos 0 → neg_ℤ (s *ℤ u -ℤ v *ℤ w) ≡ v *ℤ w
      straight s u v w e = rw e (by_ring (s ∷ v ∷ w ∷ []) (search terms depth 60 fits 20000) tt)
