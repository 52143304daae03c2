-- Points on a piece whose ends lie on a line that is given by its slope and its height at 0, and that runs to the right.
-- Assumes nothing.
use mathlib.Core.Path.{◌≡◌, refl, sym, ap, subst, ◌∙◌}
use mathlib.Core.Bool.{true, false}
use mathlib.Core.List.{[], ◌∷◌}
use mathlib.Core.Logic.{◌⊎◌, inl, inr, ⊎_elim}
use Prim.Native.Nat.{ℕ}
use native.Mathlib.Omega.{arith}
use lib.IntN.{ℤ, pos, ◌+ℤ◌, ◌-ℤ◌, ◌*ℤ◌}
use lib.Signed.{◌<ℤ◌, ◌≤ℤ◌}
use Rattle.integers.proofs.Identity.{by_ring, terms}
use Rattle.integers.proofs.Ring.{*ℤ_idr}
use Rattle.integers.proofs.Signs.{<_diff, diff-≡, ≡_diff, <→≤}
use Rattle.integers.proofs.Order.{<→≢, ≡→≤, ≤-<_trans}
use Rattle.integers.proofs.Factors.{zero_product}
use Rattle.std.specs.declared.cmp.Ordering.{Ordering}
use Rattle.fractions.specs.declared.Point.{Point}
use Rattle.fractions.proofs.Points.{Places, left, below, same, above, right, places}
use Rattle.line_segment.specs.declared.LineSegment.{LineSegment}
use Rattle.line_segment.specs.Piece.{point_of}
use Rattle.line_segment.specs.Geometry.{run, rise, side, admits, LiesOn}

side₀ : (a b σ c X Y D : ℤ) → (b -ℤ a) *ℤ (Y -ℤ (σ *ℤ a +ℤ c) *ℤ D) -ℤ ((σ *ℤ b +ℤ c) -ℤ (σ *ℤ a +ℤ c)) *ℤ (X -ℤ a *ℤ D) ≡ (b -ℤ a) *ℤ (Y -ℤ (σ *ℤ X +ℤ c *ℤ D))
side₀ a b σ c X Y D = by_ring (a ∷ b ∷ σ ∷ c ∷ X ∷ Y ∷ D ∷ []) (search terms depth 60 fits 20000) tt

scaled₀ : (a σ c D : ℤ) → σ *ℤ (a *ℤ D) +ℤ c *ℤ D ≡ (σ *ℤ a +ℤ c) *ℤ D
scaled₀ a σ c D = by_ring (a ∷ σ ∷ c ∷ D ∷ []) (search terms depth 60 fits 20000) tt

-- a value at a whole x, times D
pub scaled : (σ c a f X Y D : ℤ) → f ≡ σ *ℤ a +ℤ c → X ≡ a *ℤ D → Y ≡ σ *ℤ X +ℤ c *ℤ D → Y ≡ f *ℤ D
scaled σ c a f X Y D e g o = o ∙ ap (λ (z : ℤ). σ *ℤ z +ℤ c *ℤ D) g ∙ scaled₀ a σ c D ∙ ap (λ (z : ℤ). z *ℤ D) (sym e)

flip : {A : Type 0} → false ≡ true → A
flip e = absurd (let z : ◌≡◌ {A = ℕ} 0 1 = cc in omega arith)

module _ (s : LineSegment) (σ c : ℤ) (first : s.min.y ≡ σ *ℤ s.min.x +ℤ c) (last : s.max.y ≡ σ *ℤ s.max.x +ℤ c) (forth : s.min.x <ℤ s.max.x) (p : Point) where
  side_is : side s p ≡ (s.max.x -ℤ s.min.x) *ℤ (p.y -ℤ (σ *ℤ p.x +ℤ c *ℤ pos p.d))
  unfolding side run rise
  side_is = rw (first, last) (side₀ s.min.x s.max.x σ c p.x p.y (pos p.d))

  abbrev OnLine : Type 0
  OnLine = p.y ≡ σ *ℤ p.x +ℤ c *ℤ pos p.d

  on_line : side s p ≡ pos 0 → OnLine
  on_line e = ⊎_elim (λ (z : s.max.x -ℤ s.min.x ≡ pos 0). absurd (<→≢ (<_diff forth) (sym z))) (λ (z : p.y -ℤ (σ *ℤ p.x +ℤ c *ℤ pos p.d) ≡ pos 0). sym (diff-≡ _ _ z)) (zero_product _ _ (sym side_is ∙ e))

  line_on : OnLine → side s p ≡ pos 0
  line_on e = side_is ∙ ap (λ (z : ℤ). (s.max.x -ℤ s.min.x) *ℤ z) (≡_diff (sym e)) ∙ by_ring (s.max.x ∷ s.min.x ∷ []) (search terms depth 60 fits 20000) tt

  -- at an end's x the line has the end's height
  at_end : (a b : ℤ) → b ≡ σ *ℤ a +ℤ c → OnLine → p.x ≡ a *ℤ pos p.d → p.y ≡ b *ℤ pos p.d
  at_end a b f o e = scaled σ c a b p.x p.y (pos p.d) f e o

  -- the point is at the min's x or right of it, and left of the max's or at it
  pub record Spans : Type 0 where
    pub from : (s.min.x *ℤ pos p.d) ≤ℤ p.x
    pub upto : (p.x <ℤ (s.max.x *ℤ pos p.d)) ⊎ ((p.x ≡ s.max.x *ℤ pos p.d) × (s.max.included ≡ true))

  one : (z : ℤ) → z *ℤ pos 1 ≡ z
  one z = *ℤ_idr z

  irreflexive : (a b : ℤ) → a ≡ b → a <ℤ b → ⊥
  irreflexive a b e h = <→≢ h e

  pub holds : OnLine → s.min.included ≡ true → Spans → LiesOn s p
  unfolding point_of
  holds o i w = record { line = line_on o; from = before (places (point_of s.min) p); upto = after (places p (point_of s.max)) w.upto }
    where
      before : {t : Ordering} → Places (point_of s.min) p t → admits t s.min.included ≡ true
      before (left h) = refl
      before (below e h) = refl
      before (same e f) = i
      before (above e h) = absurd (irreflexive _ _ (one p.y ∙ at_end s.min.x s.min.y first o (sym (e ∙ one p.x))) h)
      before (right h) = absurd (irreflexive _ _ refl (≤-<_trans w.from (subst (λ (z : ℤ). z <ℤ (s.min.x *ℤ pos p.d)) (one p.x) h)))

      after : {t : Ordering} → Places p (point_of s.max) t → (p.x <ℤ (s.max.x *ℤ pos p.d)) ⊎ ((p.x ≡ s.max.x *ℤ pos p.d) × (s.max.included ≡ true)) → admits t s.max.included ≡ true
      after (left h) u = refl
      after (below e h) u = refl
      after (same e f) (inl l) = absurd (irreflexive _ _ (sym (one p.x) ∙ e) l)
      after (same e f) (inr k) = k.1
      after (above e h) u = absurd (irreflexive _ _ (sym (one p.y ∙ at_end s.max.x s.max.y last o (sym (one p.x) ∙ e))) h)
      after (right h) (inl l) = absurd (irreflexive _ _ refl (≤-<_trans (<→≤ l) (subst (λ (z : ℤ). (s.max.x *ℤ pos p.d) <ℤ z) (one p.x) h)))
      after (right h) (inr k) = absurd (irreflexive _ _ (sym k.0) (subst (λ (z : ℤ). (s.max.x *ℤ pos p.d) <ℤ z) (one p.x) h))

  pub held_line : LiesOn s p → OnLine
  held_line l = on_line l.line

  pub held_spans : LiesOn s p → Spans
  unfolding point_of
  held_spans l = record { from = before (places (point_of s.min) p) l.from; upto = after (places p (point_of s.max)) l.upto }
    where
      before : {t : Ordering} → Places (point_of s.min) p t → admits t s.min.included ≡ true → (s.min.x *ℤ pos p.d) ≤ℤ p.x
      before (left h) a = subst (λ (z : ℤ). (s.min.x *ℤ pos p.d) ≤ℤ z) (one p.x) (<→≤ h)
      before (below e h) a = ≡→≤ (e ∙ one p.x)
      before (same e f) a = ≡→≤ (e ∙ one p.x)
      before (above e h) a = flip a
      before (right h) a = flip a

      after : {t : Ordering} → Places p (point_of s.max) t → admits t s.max.included ≡ true → (p.x <ℤ (s.max.x *ℤ pos p.d)) ⊎ ((p.x ≡ s.max.x *ℤ pos p.d) × (s.max.included ≡ true))
      after (left h) a = inl (subst (λ (z : ℤ). z <ℤ (s.max.x *ℤ pos p.d)) (one p.x) h)
      after (below e h) a = absurd (irreflexive _ _ (one p.y ∙ at_end s.max.x s.max.y last (held_line l) (sym (one p.x) ∙ e)) h)
      after (same e f) a = inr (sym (one p.x) ∙ e, a)
      after (above e h) a = flip a
      after (right h) a = flip a
