-- How much higher one sloped piece is than another at a point's x: the gap, a linear function of x, whose sign tells.
use mathlib.Core.Path.{◌≡◌, sym, ap, ap₂, ◌∙◌}
use mathlib.Core.List.{[], ◌∷◌}
use lib.IntN.{ℤ, pos, neg_ℤ, ◌+ℤ◌, ◌-ℤ◌, ◌*ℤ◌}
use Rattle.integers.proofs.Identity.{by_ring, terms}
use Rattle.integers.proofs.Lines.{at}
use Rattle.fractions.specs.declared.Point.{Point}
use Rattle.line_segment.specs.declared.LineSegment.{LineSegment}
use Rattle.line_segment.specs.Geometry.{run, rise, side}
use Rattle.line_segment.specs.Segment.{moment}
use Rattle.line_segment.proofs.Sides.{tilt, side_line, even}

-- a sloped piece's height at the point's x, above the line of the fraction; below it stands run times D
abbrev pub height : LineSegment → Point → ℤ
height s p = rise s *ℤ p.x -ℤ moment s *ℤ pos p.d

-- over plain numbers: lines u, v, m and u', v', m', a point X, Y over D
module _ (u v m u' v' m' X Y D : ℤ) where
  sides₀ : u' *ℤ (u *ℤ Y -ℤ v *ℤ X +ℤ m *ℤ D) -ℤ u *ℤ (u' *ℤ Y -ℤ v' *ℤ X +ℤ m' *ℤ D) ≡ at (u' *ℤ m -ℤ u *ℤ m') (u *ℤ v' -ℤ v *ℤ u') X D
  sides₀ = by_ring (u ∷ v ∷ m ∷ u' ∷ v' ∷ m' ∷ X ∷ Y ∷ D ∷ []) (search terms depth 60 fits 20000) tt

  heights₀ : (v' *ℤ X -ℤ m' *ℤ D) *ℤ (u *ℤ D) -ℤ (v *ℤ X -ℤ m *ℤ D) *ℤ (u' *ℤ D) ≡ at (u' *ℤ m -ℤ u *ℤ m') (u *ℤ v' -ℤ v *ℤ u') X D *ℤ D
  heights₀ = by_ring (u ∷ v ∷ m ∷ u' ∷ v' ∷ m' ∷ X ∷ D ∷ []) (search terms depth 60 fits 20000) tt

  below₀ : (v *ℤ X -ℤ m *ℤ D) *ℤ D -ℤ Y *ℤ (u *ℤ D) ≡ neg_ℤ (u *ℤ Y -ℤ v *ℤ X +ℤ m *ℤ D) *ℤ D
  below₀ = by_ring (u ∷ v ∷ m ∷ X ∷ Y ∷ D ∷ []) (search terms depth 60 fits 20000) tt

  above₀ : Y *ℤ (u *ℤ D) -ℤ (v *ℤ X -ℤ m *ℤ D) *ℤ D ≡ (u *ℤ Y -ℤ v *ℤ X +ℤ m *ℤ D) *ℤ D
  above₀ = by_ring (u ∷ v ∷ m ∷ X ∷ Y ∷ D ∷ []) (search terms depth 60 fits 20000) tt

-- how far a point lies below a sloped piece, and above it
module _ (s : LineSegment) (p : Point) where
  pub below_side : height s p *ℤ pos p.d -ℤ p.y *ℤ (run s *ℤ pos p.d) ≡ neg_ℤ (side s p) *ℤ pos p.d
  below_side = rw (side_line s p) (below₀ (run s) (rise s) (moment s) (run s) (rise s) (moment s) p.x p.y (pos p.d))

  pub above_side : p.y *ℤ (run s *ℤ pos p.d) -ℤ height s p *ℤ pos p.d ≡ side s p *ℤ pos p.d
  above_side = rw (side_line s p) (above₀ (run s) (rise s) (moment s) (run s) (rise s) (moment s) p.x p.y (pos p.d))

module _ (a b : LineSegment) where
  pub level : ℤ
  level = run b *ℤ moment a -ℤ run a *ℤ moment b

  -- above 0 where b is the higher at the point's x
  abbrev pub gap : Point → ℤ
  gap p = at level (tilt a b) p.x (pos p.d)

  pub gap_heights : (p : Point) → height b p *ℤ (run a *ℤ pos p.d) -ℤ height a p *ℤ (run b *ℤ pos p.d) ≡ gap p *ℤ pos p.d
  unfolding level tilt
  gap_heights p = heights₀ (run a) (rise a) (moment a) (run b) (rise b) (moment b) p.x p.y (pos p.d)

  pub slope_tilt : rise b *ℤ run a -ℤ rise a *ℤ run b ≡ tilt a b
  unfolding tilt
  slope_tilt = by_ring (run a ∷ rise a ∷ run b ∷ rise b ∷ []) (search terms depth 60 fits 20000) tt

  pub gap_sides : (p : Point) → gap p ≡ run b *ℤ side a p -ℤ run a *ℤ side b p
  unfolding level tilt
  gap_sides p =
      sym (sides₀ (run a) (rise a) (moment a) (run b) (rise b) (moment b) p.x p.y (pos p.d))
      ∙ ap₂ (λ (z w : ℤ). run b *ℤ z -ℤ run a *ℤ w) (sym (side_line a p)) (sym (side_line b p))

  -- at a point on both lines, on that of a, on that of b
  pub gap_zero : (p : Point) → side a p ≡ pos 0 → side b p ≡ pos 0 → gap p ≡ pos 0
  gap_zero p e f = gap_sides p ∙ rw (e, f) (by_ring (run a ∷ run b ∷ []) (search terms depth 60 fits 20000) tt)

  pub gap_first : (p : Point) → side a p ≡ pos 0 → gap p ≡ pos 0 -ℤ run a *ℤ side b p
  gap_first p e = gap_sides p ∙ rw e (by_ring (run a ∷ run b ∷ side b p ∷ []) (search terms depth 60 fits 20000) tt)

  pub gap_second : (p : Point) → side b p ≡ pos 0 → gap p ≡ run b *ℤ side a p
  gap_second p e = gap_sides p ∙ rw e (by_ring (run a ∷ run b ∷ side a p ∷ []) (search terms depth 60 fits 20000) tt)

-- the gap at points of one x has one sign, and points where it is 0 have one x unless it is 0 everywhere
module _ (l t X D X' D' : ℤ) where
  pub same_gap : X *ℤ D' ≡ X' *ℤ D → at l t X D *ℤ D' ≡ at l t X' D' *ℤ D
  same_gap e =
      by_ring (l ∷ t ∷ X ∷ D ∷ D' ∷ []) {a = at l t X D *ℤ D'} {b = l *ℤ D *ℤ D' +ℤ t *ℤ (X *ℤ D')} (search terms depth 60 fits 20000) tt
      ∙ ap (λ (z : ℤ). l *ℤ D *ℤ D' +ℤ t *ℤ z) e
      ∙ by_ring (l ∷ t ∷ X' ∷ D ∷ D' ∷ []) (search terms depth 60 fits 20000) tt

  pub zeros_x : ¬ (t ≡ pos 0) → at l t X D ≡ pos 0 → at l t X' D' ≡ pos 0 → X *ℤ D' ≡ X' *ℤ D
  zeros_x nt e f =
      even (X *ℤ D') (X' *ℤ D) t nt
      (by_ring (l ∷ t ∷ X ∷ D ∷ X' ∷ D' ∷ []) {a = (X *ℤ D' -ℤ X' *ℤ D) *ℤ t} {b = at l t X D *ℤ D' -ℤ at l t X' D' *ℤ D} (search terms depth 60 fits 20000) tt
      ∙ rw (e, f) (by_ring (D ∷ D' ∷ []) (search terms depth 60 fits 20000) tt))
