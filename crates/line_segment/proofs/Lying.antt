-- Laws of a point that lies on a piece: its ends, its inside, the ends counted in, and the same point written otherwise.
use mathlib.Core.Path.{◌≡◌, refl, sym, ap, ◌∙◌}
use mathlib.Core.Logic.{⊎_elim}
use mathlib.Core.Bool.{Bool, true}
use mathlib.Core.List.{[], ◌∷◌}
use Prim.Native.Nat.{ℕ, ◌<◌}
use native.Mathlib.Omega.{arith}
use lib.IntN.{ℤ, pos, ◌+ℤ◌, ◌-ℤ◌, ◌*ℤ◌, zero-*ℤ}
use Rattle.integers.proofs.Identity.{by_ring, terms}
use Rattle.integers.proofs.Factors.{zero_product}
use Rattle.integers.proofs.Naturals.{pos_injective}
use Rattle.std.specs.declared.cmp.Ordering.{Ordering}
use Rattle.std.specs.declared.cmp.Ordering.TheVariants.{Less, Equal, Greater}
use Rattle.fractions.specs.declared.Point.{Point}
use Rattle.fractions.specs.Point.{point_order}
use Rattle.fractions.proofs.Points.{Places, same, places, point_itself, point_alike, point_alike'}
use Rattle.line_segment.specs.declared.EndPoint.{EndPoint}
use Rattle.line_segment.specs.declared.LineSegment.{LineSegment}
use Rattle.line_segment.specs.Piece.{point_of, end_order, join_by, join_of, HasLength, closed}
use Rattle.line_segment.specs.Geometry.{run, rise, side, admits, LiesOn}
use Rattle.line_segment.specs.Segment.{moment, within, inner_between}
use Rattle.line_segment.proofs.Booleans.{no, both}
use Rattle.line_segment.proofs.Sides.{side_line, min_on, max_on}

pub whole : (e : EndPoint) → 0 < (point_of e).d
unfolding point_of
whole e = omega arith

pub not_zero : (n : ℕ) → 0 < n → ¬ (pos n ≡ pos 0)
not_zero n h e = let k = pos_injective e in omega arith

-- ---- one point, written twice
module _ (s : LineSegment) (p q : Point) (hp : 0 < p.d) (hq : 0 < q.d) (e : point_order p q ≡ Equal) where
  scaled₀ : (u v m X Y D X' Y' D' : ℤ) → X *ℤ D' ≡ X' *ℤ D → Y *ℤ D' ≡ Y' *ℤ D → (u *ℤ Y' -ℤ v *ℤ X' +ℤ m *ℤ D') *ℤ D ≡ (u *ℤ Y -ℤ v *ℤ X +ℤ m *ℤ D) *ℤ D'
  scaled₀ u v m X Y D X' Y' D' x y =
      by_ring (u ∷ v ∷ m ∷ D ∷ X' ∷ Y' ∷ D' ∷ []) {a = (u *ℤ Y' -ℤ v *ℤ X' +ℤ m *ℤ D') *ℤ D} {b = u *ℤ (Y' *ℤ D) -ℤ v *ℤ (X' *ℤ D) +ℤ m *ℤ D *ℤ D'} (search terms depth 60 fits 20000) tt
      ∙ (λ i. u *ℤ (sym y i) -ℤ v *ℤ (sym x i) +ℤ m *ℤ D *ℤ D')
      ∙ by_ring (u ∷ v ∷ m ∷ X ∷ Y ∷ D ∷ D' ∷ []) (search terms depth 60 fits 20000) tt

  pub same_side : side s p ≡ pos 0 → side s q ≡ pos 0
  same_side on = go (rw e at (places p q))
    where
      times : (z w k : ℤ) → z ≡ pos 0 → w ≡ z *ℤ k → w ≡ pos 0
      times z w k e f = f ∙ rw e (zero-*ℤ k)

      go : Places p q Equal → side s q ≡ pos 0
      go (same x y) =
          ⊎_elim (λ (z : side s q ≡ pos 0). z) (λ (z : pos p.d ≡ pos 0). absurd (not_zero p.d hp z))
          (zero_product (side s q) (pos p.d)
          (times (side s p) (side s q *ℤ pos p.d) (pos q.d) on
          (ap (λ (z : ℤ). z *ℤ pos p.d) (side_line s q)
          ∙ scaled₀ (run s) (rise s) (moment s) p.x p.y (pos p.d) q.x q.y (pos q.d) x y
          ∙ ap (λ (z : ℤ). z *ℤ pos q.d) (sym (side_line s p)))))

  pub same_lies : LiesOn s p → LiesOn s q
  same_lies h =
      record {
        line = same_side h.line;
        from = ap (λ (o : Ordering). admits o s.min.included) (sym (point_alike' (point_of s.min) p q hp hq e)) ∙ h.from;
        upto = ap (λ (o : Ordering). admits o s.max.included) (sym (point_alike p q (point_of s.max) hp hq e)) ∙ h.upto;
      }

-- ---- what an end admits
pub admits_closed : (o : Ordering) (m : Bool) → admits o m ≡ true → admits o true ≡ true
admits_closed Less m e = refl
admits_closed Equal m e = refl
admits_closed Greater m e = e

pub lies_closed : (s : LineSegment) (p : Point) → LiesOn s p → LiesOn (closed s) p
unfolding closed side run rise point_of
lies_closed s p h =
    record {
      line = h.line;
      from = admits_closed (point_order (point_of s.min) p) s.min.included h.from;
      upto = admits_closed (point_order p (point_of s.max)) s.max.included h.upto;
    }

-- with the ends counted in: on the line, and at most so far
pub not_after : (o : Ordering) (m : Bool) → admits o m ≡ true → ¬ (o ≡ Greater)
not_after Less m e g = no (cc)
not_after Equal m e g = no (cc)
not_after Greater m e g = no (cc)

pub admits_at_most : (o : Ordering) → ¬ (o ≡ Greater) → admits o true ≡ true
admits_at_most Less f = refl
admits_at_most Equal f = refl
admits_at_most Greater f = absurd (f refl)

module _ (s : LineSegment) (p : Point) where
  pub closed_of : side s p ≡ pos 0 → ¬ (point_order (point_of s.min) p ≡ Greater) → ¬ (point_order p (point_of s.max) ≡ Greater) → LiesOn (closed s) p
  unfolding closed side run rise point_of
  closed_of e f g = record { line = e; from = admits_at_most (point_order (point_of s.min) p) f; upto = admits_at_most (point_order p (point_of s.max)) g }

  pub closed_line : LiesOn (closed s) p → side s p ≡ pos 0
  unfolding closed side run rise
  closed_line h = h.line

  pub closed_from : LiesOn (closed s) p → ¬ (point_order (point_of s.min) p ≡ Greater)
  unfolding closed point_of
  closed_from h = not_after (point_order (point_of s.min) p) true h.from

  pub closed_upto : LiesOn (closed s) p → ¬ (point_order p (point_of s.max) ≡ Greater)
  unfolding closed point_of
  closed_upto h = not_after (point_order p (point_of s.max)) true h.upto

-- strictly between the ends the marks do not matter
pub lies_inside : (s : LineSegment) (p : Point) → side s p ≡ pos 0 → point_order (point_of s.min) p ≡ Less → point_order p (point_of s.max) ≡ Less → LiesOn s p
lies_inside s p e h k = record { line = e; from = rw h; upto = rw k }

-- ---- the ends
pub data End (s : LineSegment) : EndPoint → Type 0 where
  the_min : End s s.min
  the_max : End s s.max

pub end_on : (s : LineSegment) {e : EndPoint} → End s e → side s (point_of e) ≡ pos 0
end_on s the_min = min_on s
end_on s the_max = max_on s

module _ (s : LineSegment) (l : HasLength s) where
  pub forward : point_order (point_of s.min) (point_of s.max) ≡ Less
  unfolding end_order
  forward = l

  -- an end lies on the piece where it is included, and only there
  pub end_lies : {e : EndPoint} → End s e → e.included ≡ true → LiesOn s (point_of e)
  end_lies the_min i = record { line = min_on s; from = rw (point_itself (point_of s.min)) i; upto = rw forward }
  end_lies the_max i = record { line = max_on s; from = rw forward; upto = rw (point_itself (point_of s.max)) i }

  pub end_included : {e : EndPoint} → End s e → LiesOn s (point_of e) → e.included ≡ true
  end_included the_min h = rw (point_itself (point_of s.min)) at h.from
  end_included the_max h = rw (point_itself (point_of s.max)) at h.upto

  -- the ends in order: the code's question is the meaning's
  joined : join_of s.min s.max ≡ s
  unfolding join_of join_by
  joined = rw l

  pub between_is : (p : Point) → inner_between p s.min s.max ≡ within p s
  unfolding inner_between
  between_is p = rw joined

  pub lies_between : (p : Point) → LiesOn s p → inner_between p s.min s.max ≡ true
  unfolding within
  lies_between p h = between_is p ∙ rw (h.from, h.upto)

  pub between_lies : (p : Point) → side s p ≡ pos 0 → inner_between p s.min s.max ≡ true → LiesOn s p
  unfolding within
  between_lies p e h = let k = both (sym (between_is p) ∙ h) in record { line = e; from = k.0; upto = k.1 }
