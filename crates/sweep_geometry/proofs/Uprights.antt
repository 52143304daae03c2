-- Upright pieces and points of one x: where an upright piece stands, and on which side of a sloped piece points of one
-- x lie.
use mathlib.Core.Path.{◌≡◌, refl, sym, ap, ◌∙◌, subst}
use mathlib.Core.Logic.{⊎_elim}
use mathlib.Core.List.{[], ◌∷◌}
use Prim.Native.Nat.{◌<◌}
use lib.IntN.{ℤ, pos, ◌+ℤ◌, ◌-ℤ◌, ◌*ℤ◌}
use lib.Signed.{◌≤ℤ◌, ◌<ℤ◌, clash_ℤ}
use Rattle.integers.proofs.Identity.{by_ring, terms}
use Rattle.integers.proofs.Signs.{<_diff, diff-<, ≤_diff, <→≤, p*p, n*n, n+n}
use Rattle.integers.proofs.Order.{≤_cert, ≡→≤, <→≢, ≤_antisym}
use Rattle.integers.proofs.Factors.{*_cancel-≤, p/p, zero_product}
use Rattle.integers.proofs.Naturals.{pos-<}
use Rattle.fractions.specs.Point.{point_order}
use Rattle.std.specs.declared.cmp.Ordering.{Ordering}
use Rattle.std.specs.declared.cmp.Ordering.TheVariants.{Greater}
use Rattle.fractions.specs.declared.Point.{Point}
use Rattle.fractions.proofs.Points.{Places, left, below, same, above, right, places}
use Rattle.line_segment.specs.declared.LineSegment.{LineSegment}
use Rattle.line_segment.specs.Piece.{point_of}
use Rattle.line_segment.specs.Geometry.{run, rise, side}
use Rattle.line_segment.proofs.Along.{Leads, rightward, upward}

x_at_most : (p q : Point) → ¬ (point_order p q ≡ Greater) → (p.x *ℤ pos q.d) ≤ℤ (q.x *ℤ pos p.d)
x_at_most p q f = go (places p q) f
  where
    go : {o : Ordering} → Places p q o → ¬ (o ≡ Greater) → (p.x *ℤ pos q.d) ≤ℤ (q.x *ℤ pos p.d)
    go (left h) f = <→≤ h
    go (below e h) f = ≡→≤ e
    go (same e h) f = ≡→≤ e
    go (above e h) f = ≡→≤ e
    go (right h) f = absurd (f refl)

-- ---- an upright piece that has begun by p and reaches c stands at their x
module _ (x X D X' D' : ℤ) (pd : pos 0 <ℤ D) (pd' : pos 0 <ℤ D') (h : (x *ℤ D) ≤ℤ (X *ℤ pos 1)) (k : (X' *ℤ pos 1) ≤ℤ (x *ℤ D')) where
  not_west : ¬ ((X *ℤ D') <ℤ (X' *ℤ D))
  not_west w =
      clash_ℤ w
      (≤_cert (x ∷ X ∷ D ∷ X' ∷ D' ∷ []) (n+n (n*n (≤_diff h) (<→≤ pd')) (n*n (≤_diff k) (<→≤ pd))) (search terms depth 60 fits 20000) tt)

  pinned : X *ℤ D' ≡ X' *ℤ D → (X ≡ x *ℤ D) × (X' ≡ x *ℤ D')
  pinned e = (
    ≤_antisym
        (*_cancel-≤ X (x *ℤ D) D' pd'
        (subst (λ (z : ℤ). z ≤ℤ (x *ℤ D *ℤ D')) (sym e) (≤_cert (x ∷ X' ∷ D ∷ D' ∷ []) (n*n (≤_diff k) (<→≤ pd)) (search terms depth 60 fits 20000) tt)))
        (≤_cert (x ∷ X ∷ D ∷ []) (≤_diff h) (search terms depth 60 fits 20000) tt),
    ≤_antisym
        (≤_cert (x ∷ X' ∷ D' ∷ []) (≤_diff k) (search terms depth 60 fits 20000) tt)
        (*_cancel-≤ (x *ℤ D') X' D pd
        (subst (λ (z : ℤ). (x *ℤ D' *ℤ D) ≤ℤ z) e (≤_cert (x ∷ X ∷ D ∷ D' ∷ []) (n*n (≤_diff h) (<→≤ pd')) (search terms depth 60 fits 20000) tt))),
  )

no_run : (a b : ℤ) → b -ℤ a ≡ pos 0 → b ≡ a
no_run a b e = by_ring (a ∷ b ∷ []) {a = b} {b = a +ℤ (b -ℤ a)} (search terms depth 60 fits 20000) tt ∙ ap (λ (z : ℤ). a +ℤ z) e ∙ by_ring (a ∷ []) (search terms depth 60 fits 20000) tt

module _ (s : LineSegment) (p c : Point) (dp : 0 < p.d) (dc : 0 < c.d)
    (s_from : ¬ (point_order (point_of s.min) p ≡ Greater)) (s_upto : ¬ (point_order c (point_of s.max) ≡ Greater)) where
  from_x : (s.min.x *ℤ pos p.d) ≤ℤ (p.x *ℤ pos 1)
  unfolding point_of
  from_x = x_at_most (point_of s.min) p s_from

  upto_x : run s ≡ pos 0 → (c.x *ℤ pos 1) ≤ℤ (s.min.x *ℤ pos c.d)
  unfolding point_of run
  upto_x e = subst (λ (z : ℤ). (c.x *ℤ pos 1) ≤ℤ (z *ℤ pos c.d)) (no_run s.min.x s.max.x e) (x_at_most c (point_of s.max) s_upto)

  pub west_sloped : (p.x *ℤ pos c.d) <ℤ (c.x *ℤ pos p.d) → Leads s → pos 0 <ℤ run s
  west_sloped w (rightward h) = h
  west_sloped w (upward e k) = absurd (not_west s.min.x p.x (pos p.d) c.x (pos c.d) (pos-< dp) (pos-< dc) from_x (upto_x e) w)

  pub standing_x : p.x *ℤ pos c.d ≡ c.x *ℤ pos p.d → run s ≡ pos 0 → (p.x ≡ s.min.x *ℤ pos p.d) × (c.x ≡ s.min.x *ℤ pos c.d)
  standing_x e r = pinned s.min.x p.x (pos p.d) c.x (pos c.d) (pos-< dp) (pos-< dc) from_x (upto_x r) e

-- ---- points of one x: the higher one lies further to a sloped piece's upper side
climb₀ : (u v x y X Y D X' Y' D' : ℤ)
    → (u *ℤ (Y' -ℤ y *ℤ D') -ℤ v *ℤ (X' -ℤ x *ℤ D')) *ℤ D -ℤ (u *ℤ (Y -ℤ y *ℤ D) -ℤ v *ℤ (X -ℤ x *ℤ D)) *ℤ D'
    ≡ (Y' *ℤ D -ℤ Y *ℤ D') *ℤ u +ℤ v *ℤ (X *ℤ D' -ℤ X' *ℤ D)
climb₀ u v x y X Y D X' Y' D' = by_ring (u ∷ v ∷ x ∷ y ∷ X ∷ Y ∷ D ∷ X' ∷ Y' ∷ D' ∷ []) (search terms depth 60 fits 20000) tt

module _ (s : LineSegment) (p q : Point) (e : p.x *ℤ pos q.d ≡ q.x *ℤ pos p.d) where
  climb : side s q *ℤ pos p.d -ℤ side s p *ℤ pos q.d ≡ (q.y *ℤ pos p.d -ℤ p.y *ℤ pos q.d) *ℤ run s
  unfolding side
  climb =
      climb₀ (run s) (rise s) s.min.x s.min.y p.x p.y (pos p.d) q.x q.y (pos q.d)
      ∙ level_x (q.y *ℤ pos p.d -ℤ p.y *ℤ pos q.d) (run s) (rise s) (p.x *ℤ pos q.d) (q.x *ℤ pos p.d) e
    where
      level_x : (h u v a b : ℤ) → a ≡ b → h *ℤ u +ℤ v *ℤ (a -ℤ b) ≡ h *ℤ u
      level_x h u v a b e = rw e (by_ring (h ∷ u ∷ v ∷ b ∷ []) (search terms depth 60 fits 20000) tt)

  module _ (hs : pos 0 <ℤ run s) where
    pub higher : (p.y *ℤ pos q.d) <ℤ (q.y *ℤ pos p.d) → (side s p *ℤ pos q.d) <ℤ (side s q *ℤ pos p.d)
    higher h = diff-< (subst (λ (z : ℤ). pos 0 <ℤ z) (sym climb) (p*p (<_diff h) hs))

    pub lower : (side s p *ℤ pos q.d) <ℤ (side s q *ℤ pos p.d) → (p.y *ℤ pos q.d) <ℤ (q.y *ℤ pos p.d)
    lower h = diff-< (p/p (q.y *ℤ pos p.d -ℤ p.y *ℤ pos q.d) hs (subst (λ (z : ℤ). pos 0 <ℤ z) climb (<_diff h)))

-- a point on an upright piece's line has its x
upright₀ : (v x X D : ℤ) (u y Y : ℤ) → u ≡ pos 0 → u *ℤ (Y -ℤ y *ℤ D) -ℤ v *ℤ (X -ℤ x *ℤ D) ≡ v *ℤ (x *ℤ D -ℤ X)
upright₀ v x X D u y Y e = rw e (by_ring (v ∷ x ∷ X ∷ D ∷ y ∷ Y ∷ []) (search terms depth 60 fits 20000) tt)

module _ (s : LineSegment) (er : run s ≡ pos 0) (hr : pos 0 <ℤ rise s) (q : Point) where
  upright_side : side s q ≡ rise s *ℤ (s.min.x *ℤ pos q.d -ℤ q.x)
  unfolding side
  upright_side = upright₀ (rise s) s.min.x q.x (pos q.d) (run s) s.min.y q.y er

  pub upright_on : q.x ≡ s.min.x *ℤ pos q.d → side s q ≡ pos 0
  upright_on e = upright_side ∙ zero_of (rise s) (s.min.x *ℤ pos q.d) q.x e
    where
      zero_of : (v a x : ℤ) → x ≡ a → v *ℤ (a -ℤ x) ≡ pos 0
      zero_of v a x e = rw e (by_ring (v ∷ a ∷ []) (search terms depth 60 fits 20000) tt)

  pub on_upright : side s q ≡ pos 0 → q.x ≡ s.min.x *ℤ pos q.d
  on_upright e =
      ⊎_elim
      (λ (z : rise s ≡ pos 0). absurd (<→≢ hr (sym z)))
      (λ (z : s.min.x *ℤ pos q.d -ℤ q.x ≡ pos 0). sym (no_run q.x (s.min.x *ℤ pos q.d) z))
      (zero_product (rise s) (s.min.x *ℤ pos q.d -ℤ q.x) (sym upright_side ∙ e))

-- points on one upright line have one x
pub one_x : (x X D X' D' : ℤ) → X ≡ x *ℤ D → X' ≡ x *ℤ D' → X *ℤ D' ≡ X' *ℤ D
one_x x X D X' D' e f = rw (e, f) (by_ring (x ∷ D ∷ D' ∷ []) (search terms depth 60 fits 20000) tt)
