-- The side of a line on which a point lies, as a linear function of the point; what two lines have to do with one another.
use mathlib.Core.Path.{◌≡◌, sym, ap, ◌∙◌}
use mathlib.Core.Logic.{⊎_elim}
use mathlib.Core.List.{[], ◌∷◌}
use lib.IntN.{ℤ, pos, ◌+ℤ◌, ◌-ℤ◌, ◌*ℤ◌, -ℤ-+ℤ_cancel, +ℤ_idl}
use Rattle.integers.proofs.Identity.{by_ring, terms}
use Rattle.integers.proofs.Factors.{zero_product}
use Rattle.fractions.specs.Point.{point_order}
use Rattle.std.specs.declared.cmp.Ordering.TheVariants.{Equal}
use Rattle.fractions.specs.declared.Point.{Point}
use Rattle.fractions.proofs.Points.{placed, same}
use Rattle.line_segment.specs.declared.LineSegment.{LineSegment}
use Rattle.line_segment.specs.Piece.{point_of}
use Rattle.line_segment.specs.Geometry.{run, rise, side}
use Rattle.line_segment.specs.Segment.{moment}

-- ---- by run, rise and moment
abbrev pub line : LineSegment → ℤ → ℤ → ℤ → ℤ
line s x y d = run s *ℤ y -ℤ rise s *ℤ x +ℤ moment s *ℤ d

line₀ : (x1 y1 x2 y2 X Y D : ℤ) → (x2 -ℤ x1) *ℤ (Y -ℤ y1 *ℤ D) -ℤ (y2 -ℤ y1) *ℤ (X -ℤ x1 *ℤ D) ≡ (x2 -ℤ x1) *ℤ Y -ℤ (y2 -ℤ y1) *ℤ X +ℤ (x1 *ℤ y2 -ℤ x2 *ℤ y1) *ℤ D
line₀ x1 y1 x2 y2 X Y D = by_ring (x1 ∷ y1 ∷ x2 ∷ y2 ∷ X ∷ Y ∷ D ∷ []) (search terms depth 60 fits 20000) tt

pub side_line : (s : LineSegment) (p : Point) → side s p ≡ line s p.x p.y (pos p.d)
unfolding side run rise moment
side_line s p = line₀ s.min.x s.min.y s.max.x s.max.y p.x p.y (pos p.d)

-- the ends are on the line
pub min_on : (s : LineSegment) → side s (point_of s.min) ≡ pos 0
unfolding side run rise point_of
min_on s = by_ring (s.min.x ∷ s.min.y ∷ s.max.x ∷ s.max.y ∷ []) (search terms depth 60 fits 20000) tt

pub max_on : (s : LineSegment) → side s (point_of s.max) ≡ pos 0
unfolding side run rise point_of
max_on s = by_ring (s.min.x ∷ s.min.y ∷ s.max.x ∷ s.max.y ∷ []) (search terms depth 60 fits 20000) tt

-- ---- plain numbers: lines u, v, m and u', v', m', points X, Y, D and X', Y', D'
across₀ : (u v m u' v' m' X Y D X' Y' D' : ℤ) →
    (X *ℤ D' -ℤ X' *ℤ D) *ℤ (u *ℤ v' -ℤ v *ℤ u')
    ≡ (u *ℤ (u' *ℤ Y' -ℤ v' *ℤ X' +ℤ m' *ℤ D') -ℤ u' *ℤ (u *ℤ Y' -ℤ v *ℤ X' +ℤ m *ℤ D')) *ℤ D
    -ℤ (u *ℤ (u' *ℤ Y -ℤ v' *ℤ X +ℤ m' *ℤ D) -ℤ u' *ℤ (u *ℤ Y -ℤ v *ℤ X +ℤ m *ℤ D)) *ℤ D'
across₀ u v m u' v' m' X Y D X' Y' D' =
    by_ring (u ∷ v ∷ m ∷ u' ∷ v' ∷ m' ∷ X ∷ Y ∷ D ∷ X' ∷ Y' ∷ D' ∷ []) (search terms depth 60 fits 20000) tt

up₀ : (u v m u' v' m' X Y D X' Y' D' : ℤ) →
    (Y *ℤ D' -ℤ Y' *ℤ D) *ℤ (u *ℤ v' -ℤ v *ℤ u')
    ≡ (v *ℤ (u' *ℤ Y' -ℤ v' *ℤ X' +ℤ m' *ℤ D') -ℤ v' *ℤ (u *ℤ Y' -ℤ v *ℤ X' +ℤ m *ℤ D')) *ℤ D
    -ℤ (v *ℤ (u' *ℤ Y -ℤ v' *ℤ X +ℤ m' *ℤ D) -ℤ v' *ℤ (u *ℤ Y -ℤ v *ℤ X +ℤ m *ℤ D)) *ℤ D'
up₀ u v m u' v' m' X Y D X' Y' D' =
    by_ring (u ∷ v ∷ m ∷ u' ∷ v' ∷ m' ∷ X ∷ Y ∷ D ∷ X' ∷ Y' ∷ D' ∷ []) (search terms depth 60 fits 20000) tt

pub alike : (a b : ℤ) → a -ℤ b ≡ pos 0 → a ≡ b
alike a b e = sym (-ℤ-+ℤ_cancel a b) ∙ ap (λ (z : ℤ). z +ℤ b) e ∙ +ℤ_idl b

-- no zero divisors, for a difference
pub even : (a b t : ℤ) → ¬ (t ≡ pos 0) → (a -ℤ b) *ℤ t ≡ pos 0 → a ≡ b
even a b t ne e = ⊎_elim (λ (z : a -ℤ b ≡ pos 0). alike a b z) (λ (z : t ≡ pos 0). absurd (ne z)) (zero_product (a -ℤ b) t e)

nil : (u v d d' : ℤ) {l l' k k' : ℤ} → l ≡ pos 0 → l' ≡ pos 0 → k ≡ pos 0 → k' ≡ pos 0 → (u *ℤ l -ℤ v *ℤ l') *ℤ d -ℤ (u *ℤ k -ℤ v *ℤ k') *ℤ d' ≡ pos 0
nil u v d d' e f g h = rw (e, f, g, h) (by_ring (u ∷ v ∷ d ∷ d' ∷ []) (search terms depth 60 fits 20000) tt)

-- ---- two lines
module _ (a b : LineSegment) where
  -- Cramer's denominator: 0 where the lines are parallel
  unfoldable pub tilt : ℤ
  tilt = run a *ℤ rise b -ℤ rise a *ℤ run b

  pub tilt_second : side a (point_of b.max) -ℤ side a (point_of b.min) ≡ tilt
  unfolding tilt side run rise point_of
  tilt_second = by_ring (a.min.x ∷ a.min.y ∷ a.max.x ∷ a.max.y ∷ b.min.x ∷ b.min.y ∷ b.max.x ∷ b.max.y ∷ []) (search terms depth 60 fits 20000) tt

  pub tilt_first : side b (point_of a.min) -ℤ side b (point_of a.max) ≡ tilt
  unfolding tilt side run rise point_of
  tilt_first = by_ring (a.min.x ∷ a.min.y ∷ a.max.x ∷ a.max.y ∷ b.min.x ∷ b.min.y ∷ b.max.x ∷ b.max.y ∷ []) (search terms depth 60 fits 20000) tt

  -- two points on both lines are one, unless the lines are parallel
  module _ (ne : ¬ (tilt ≡ pos 0)) where
    pub one_point : (p q : Point) → side a p ≡ pos 0 → side b p ≡ pos 0 → side a q ≡ pos 0 → side b q ≡ pos 0 → point_order p q ≡ Equal
    unfolding tilt
    one_point p q e f g h =
        let e' = sym (side_line a p) ∙ e in
        let f' = sym (side_line b p) ∙ f in
        let g' = sym (side_line a q) ∙ g in
        let h' = sym (side_line b q) ∙ h in
        placed (same
        (even _ _ tilt ne (across₀ (run a) (rise a) (moment a) (run b) (rise b) (moment b) p.x p.y (pos p.d) q.x q.y (pos q.d) ∙ nil (run a) (run b) (pos p.d) (pos q.d) h' g' f' e'))
        (even _ _ tilt ne (up₀ (run a) (rise a) (moment a) (run b) (rise b) (moment b) p.x p.y (pos p.d) q.x q.y (pos q.d) ∙ nil (rise a) (rise b) (pos p.d) (pos q.d) h' g' f' e')))
