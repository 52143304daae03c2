-- Of three pieces in order at p, the outer two through a later point c: so goes the middle one, or it crosses one of
-- them before c. By x, or straight up where c has the x of p.
use mathlib.Core.Path.{◌≡◌, refl, sym, ◌∙◌, subst}
use mathlib.Core.Logic.{◌⊎◌, inl, inr}
use mathlib.Core.List.{[], ◌∷◌}
use Prim.Native.Nat.{◌<◌}
use native.Mathlib.Omega.{arith}
use lib.IntN.{ℤ, pos, ◌-ℤ◌, ◌*ℤ◌}
use lib.Signed.{◌≤ℤ◌, ◌<ℤ◌, clash_ℤ}
use Rattle.integers.proofs.Identity.{by_ring, terms}
use Rattle.integers.proofs.Signs.{≤_diff, <→≤, p*p, n*n, n+n}
use Rattle.integers.proofs.Order.{<_cert, ≤_cert, Tri, less, same, more, tri, ≤_antisym}
use Rattle.integers.proofs.Factors.{*_cancel-≤, n/p, p*m}
use Rattle.integers.proofs.Naturals.{pos-<}
use Rattle.fractions.specs.Point.{point_order}
use Rattle.std.specs.declared.cmp.Ordering.{Ordering}
use Rattle.std.specs.declared.cmp.Ordering.TheVariants.{Less, Greater}
use Rattle.fractions.specs.declared.Point.{Point}
use Rattle.fractions.proofs.Points.{Places, left, below, above, right, places}
use Rattle.fractions.proofs.Points.{same as even}
use Rattle.line_segment.specs.declared.LineSegment.{LineSegment}
use Rattle.line_segment.specs.Piece.{point_of, HasLength}
use Rattle.line_segment.specs.Geometry.{run, side}
use Rattle.line_segment.proofs.Along.{Leads, rightward, upward, leads}
use Rattle.line_segment.proofs.Sides.{tilt}
use Rattle.sweep_geometry.proofs.Comparisons.{never}
use Rattle.sweep_geometry.proofs.Gap.{level, gap, gap_first, gap_second, same_gap}
use Rattle.sweep_geometry.proofs.Heights.{zero_times}
use Rattle.sweep_geometry.proofs.Preceding.{Precedes}
use Rattle.sweep_geometry.proofs.Uprights.{west_sloped, standing_x, higher, upright_on}
use Rattle.sweep_geometry.proofs.Turning.{CrossIn, turning, upright_cross}

module _ (a k b : LineSegment) (la : HasLength a) (lk : HasLength k) (lb : HasLength b) (p c : Point) (dp : 0 < p.d) (dc : 0 < c.d)
    (a_from : ¬ (point_order (point_of a.min) p ≡ Greater)) (k_from : ¬ (point_order (point_of k.min) p ≡ Greater)) (b_from : ¬ (point_order (point_of b.min) p ≡ Greater))
    (a_upto : ¬ (point_order c (point_of a.max) ≡ Greater)) (k_upto : ¬ (point_order c (point_of k.max) ≡ Greater)) (b_upto : ¬ (point_order c (point_of b.max) ≡ Greater))
    (ak : Precedes p a k) (kb : Precedes p k b) (ac : side a c ≡ pos 0) (bc : side b c ≡ pos 0) where
  abbrev Squeezed : Type 0
  Squeezed = (side k c ≡ pos 0) ⊎ (CrossIn a k p c ⊎ CrossIn k b p c)

  -- c further along x: all three are sloped, and on whichever side of k the point c lies, one pair has turned round
  squeeze_west : (p.x *ℤ pos c.d) <ℤ (c.x *ℤ pos p.d) → Squeezed
  squeeze_west w = go (tri (side k c) (pos 0))
    where
      ha : pos 0 <ℤ run a
      ha = west_sloped a p c dp dc a_from a_upto w (leads a la)

      hk : pos 0 <ℤ run k
      hk = west_sloped k p c dp dc k_from k_upto w (leads k lk)

      hb : pos 0 <ℤ run b
      hb = west_sloped b p c dp dc b_from b_upto w (leads b lb)

      under : (u v : ℤ) → pos 0 <ℤ u → pos 0 <ℤ v → (pos 0 -ℤ u *ℤ v) <ℤ pos 0
      under u v h g = <_cert (u ∷ v ∷ []) (p*p h g) (search terms depth 60 fits 20000) tt

      go : Tri (side k c) (pos 0) → Squeezed
      go (same e) = inl e
      go (more h) =
          inr (inl (turning a k p c dp dc la lk a_from k_from a_upto k_upto ak ha hk w (subst (λ (z : ℤ). z <ℤ pos 0) (sym (gap_first a k c ac)) (under (run a) (side k c) ha h))))
      go (less h) =
          inr (inr (turning k b p c dp dc lk lb k_from b_from k_upto b_upto kb hk hb w (subst (λ (z : ℤ). z <ℤ pos 0) (sym (gap_second k b c bc)) (p*m hb h))))

  -- c straight above p
  module _ (e : p.x *ℤ pos c.d ≡ c.x *ℤ pos p.d) (south : (p.y *ℤ pos c.d) <ℤ (c.y *ℤ pos p.d)) (hk : pos 0 <ℤ run k) where
    -- a sloped piece before k goes through c, so k is not below c; one after k likewise
    first_sloped : pos 0 <ℤ run a → side k c ≤ℤ pos 0
    first_sloped ha =
        let g : pos 0 ≤ℤ gap a k c = n/p (gap a k c) (pos-< dp) (subst (λ (z : ℤ). pos 0 ≤ℤ z) (same_gap (level a k) (tilt a k) p.x (pos p.d) c.x (pos c.d) e) (n*n (ak.sloped ha hk) (<→≤ (pos-< dc)))) in
        at_most_zero (side k c) (run a) ha (subst (λ (z : ℤ). pos 0 ≤ℤ z) (gap_first a k c ac) g)
      where
        at_most_zero : (z u : ℤ) → pos 0 <ℤ u → pos 0 ≤ℤ (pos 0 -ℤ u *ℤ z) → z ≤ℤ pos 0
        at_most_zero z u h g = *_cancel-≤ z (pos 0) u h (≤_cert (z ∷ u ∷ []) g (search terms depth 60 fits 20000) tt)

    last_sloped : pos 0 <ℤ run b → pos 0 ≤ℤ side k c
    last_sloped hb =
        let g : pos 0 ≤ℤ gap k b c = n/p (gap k b c) (pos-< dp) (subst (λ (z : ℤ). pos 0 ≤ℤ z) (same_gap (level k b) (tilt k b) p.x (pos p.d) c.x (pos c.d) e) (n*n (kb.sloped hk hb) (<→≤ (pos-< dc)))) in
        *_cancel-≤ (pos 0) (side k c) (run b) hb (subst (λ (z : ℤ). (pos 0 *ℤ run b) ≤ℤ z) (gap_second k b c bc ∙ turn (run b) (side k c)) (subst (λ (z : ℤ). z ≤ℤ gap k b c) (sym (zero_times (run b))) g))
      where
        turn : (u z : ℤ) → u *ℤ z ≡ z *ℤ u
        turn u z = by_ring (u ∷ z ∷ []) (search terms depth 60 fits 20000) tt

    -- c lies further to the upper side of k than p does
    up : (side k p *ℤ pos c.d) <ℤ (side k c *ℤ pos p.d)
    up = higher k p c e hk south

    wrong_way : side k c ≤ℤ pos 0 → pos 0 ≤ℤ side k p → ⊥
    wrong_way h g = clash_ℤ up (not_up (side k c) (side k p) (pos p.d) (pos c.d) h g (<→≤ (pos-< dp)) (<→≤ (pos-< dc)))
      where
        not_up : (u v m n : ℤ) → u ≤ℤ pos 0 → pos 0 ≤ℤ v → pos 0 ≤ℤ m → pos 0 ≤ℤ n → (u *ℤ m) ≤ℤ (v *ℤ n)
        not_up u v m n h g i j = ≤_cert (u ∷ v ∷ m ∷ n ∷ []) (n+n (n*n g j) (n*n (≤_diff h) i)) (search terms depth 60 fits 20000) tt

    squeeze_up : Leads a → Leads b → Squeezed
    squeeze_up (rightward ha) (rightward hb) = inl (≤_antisym (first_sloped ha) (last_sloped hb))
    squeeze_up (rightward ha) (upward eb rb) = absurd (wrong_way (first_sloped ha) (kb.over hk eb))
    squeeze_up (upward ea ra) (rightward hb) = go (tri (side k c) (pos 0))
      where
        go : Tri (side k c) (pos 0) → Squeezed
        go (same z) = inl z
        go (more h) = inr (inl (upright_cross a k p c dp dc la lk a_from k_from a_upto k_upto ak e ea ra hk h))
        go (less h) = clash_ℤ h (last_sloped hb)
    squeeze_up (upward ea ra) (upward eb rb) = clash_ℤ (ak.under ea ra hk) (kb.over hk eb)

  pub squeeze : point_order p c ≡ Less → Squeezed
  squeeze h = go (places p c) h
    where
      middle : p.x *ℤ pos c.d ≡ c.x *ℤ pos p.d → (p.y *ℤ pos c.d) <ℤ (c.y *ℤ pos p.d) → Leads k → Squeezed
      middle e s (rightward hk) = squeeze_up e s hk (leads a la) (leads b lb)
      middle e s (upward ek rk) = inl (upright_on k ek rk c (standing_x k p c dp dc k_from k_upto e ek).1)

      go : {o : Ordering} → Places p c o → o ≡ Less → Squeezed
      go (left w) f = squeeze_west w
      go (below e s) f = middle e s (leads k lk)
      go (even e s) f = never refl f (omega arith)
      go (above e s) f = never refl f (omega arith)
      go (right w) f = never refl f (omega arith)
