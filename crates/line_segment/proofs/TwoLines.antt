-- Two lines: when they are one, and where a common point lies between the ends of a piece.
use mathlib.Core.Path.{◌≡◌, sym, ap, ◌∙◌, subst}
use mathlib.Core.Logic.{⊎_elim}
use mathlib.Core.Bool.{Bool, true}
use mathlib.Core.List.{[], ◌∷◌}
use Prim.Native.Nat.{◌<◌}
use lib.IntN.{ℤ, pos, neg_ℤ, ◌+ℤ◌, ◌-ℤ◌, ◌*ℤ◌, *ℤ-zero, +ℤ_comm}
use lib.Signed.{◌≤ℤ◌, ◌<ℤ◌, clash_ℤ}
use Rattle.integers.proofs.Identity.{by_ring, terms}
use Rattle.integers.proofs.Signs.{<_diff, <→≤, n+p, p+n, p+p, n*n, p*p}
use Rattle.integers.proofs.Order.{<_cert, <→≢, ≡→≤, neg-<, Tri, less, same, more, tri}
use Rattle.integers.proofs.Factors.{p/p, zero_product}
use Rattle.integers.proofs.Naturals.{pos-<}
use Rattle.std.specs.declared.cmp.Ordering.{Ordering}
use Rattle.std.specs.declared.cmp.Ordering.TheVariants.{Less}
use Rattle.fractions.specs.declared.Point.{Point}
use Rattle.fractions.specs.Point.{point_order}
use Rattle.fractions.proofs.Orders.{Answer, is_less_lem, is_equal_lem, is_greater, answer, order_less}
use Rattle.line_segment.specs.declared.LineSegment.{LineSegment}
use Rattle.line_segment.specs.Piece.{point_of}
use Rattle.line_segment.specs.Geometry.{run, rise, side, admits, LiesOn, OneLine}
use Rattle.line_segment.proofs.Booleans.{no}
use Rattle.line_segment.proofs.Sides.{tilt, tilt_first, tilt_second}
use Rattle.line_segment.proofs.Along.{Leads, rightward, upward, past, short, past_order, short_order, past_short, length², length_positive, weighed}

-- ---- one line
-- a point on the line of b is on that of a
pub carried : (a b : LineSegment) (p : Point) → Leads b → OneLine a b → side b p ≡ pos 0 → side a p ≡ pos 0
carried a b p l o e =
    ⊎_elim (λ (z : length² b ≡ pos 0). absurd (<→≢ (length_positive b l) (sym z))) (λ (z : side a p ≡ pos 0). z)
    (zero_product (length² b) (side a p) (weighed a b p e ∙ nil (short b p) (past b p) o.min o.max))
  where
    nil : (u v : ℤ) {k l : ℤ} → k ≡ pos 0 → l ≡ pos 0 → k *ℤ u +ℤ l *ℤ v ≡ pos 0
    nil u v e f = rw (e, f) (by_ring (u ∷ v ∷ []) (search terms depth 60 fits 20000) tt)

-- the side of b's min from a, told by a's min from b
module _ (x1 y1 x2 y2 x1' y1' x2' y2' : ℤ) where
  by_run₀ : ((x2' -ℤ x1') *ℤ (y1 -ℤ y1' *ℤ pos 1) -ℤ (y2' -ℤ y1') *ℤ (x1 -ℤ x1' *ℤ pos 1)) *ℤ (x2 -ℤ x1)
      ≡ (x1' -ℤ x1) *ℤ ((x2 -ℤ x1) *ℤ (y2' -ℤ y1') -ℤ (y2 -ℤ y1) *ℤ (x2' -ℤ x1')) -ℤ (x2' -ℤ x1') *ℤ ((x2 -ℤ x1) *ℤ (y1' -ℤ y1 *ℤ pos 1) -ℤ (y2 -ℤ y1) *ℤ (x1' -ℤ x1 *ℤ pos 1))
  by_run₀ = by_ring (x1 ∷ y1 ∷ x2 ∷ y2 ∷ x1' ∷ y1' ∷ x2' ∷ y2' ∷ []) (search terms depth 60 fits 20000) tt

  by_rise₀ : ((x2' -ℤ x1') *ℤ (y1 -ℤ y1' *ℤ pos 1) -ℤ (y2' -ℤ y1') *ℤ (x1 -ℤ x1' *ℤ pos 1)) *ℤ (y2 -ℤ y1)
      ≡ (y1' -ℤ y1) *ℤ ((x2 -ℤ x1) *ℤ (y2' -ℤ y1') -ℤ (y2 -ℤ y1) *ℤ (x2' -ℤ x1')) -ℤ (y2' -ℤ y1') *ℤ ((x2 -ℤ x1) *ℤ (y1' -ℤ y1 *ℤ pos 1) -ℤ (y2 -ℤ y1) *ℤ (x1' -ℤ x1 *ℤ pos 1))
  by_rise₀ = by_ring (x1 ∷ y1 ∷ x2 ∷ y2 ∷ x1' ∷ y1' ∷ x2' ∷ y2' ∷ []) (search terms depth 60 fits 20000) tt

module _ (a b : LineSegment) (l : Leads a) (o : OneLine a b) where
  pub level : tilt a b ≡ pos 0
  level = sym (tilt_second a b) ∙ rw (o.min, o.max)

  vanish : (u v : ℤ) {t k : ℤ} → t ≡ pos 0 → k ≡ pos 0 → u *ℤ t -ℤ v *ℤ k ≡ pos 0
  vanish u v e f = rw (e, f) (by_ring (u ∷ v ∷ []) (search terms depth 60 fits 20000) tt)

  by_run : side b (point_of a.min) *ℤ run a ≡ pos 0
  unfolding side run rise point_of tilt
  by_run =
      by_run₀ a.min.x a.min.y a.max.x a.max.y b.min.x b.min.y b.max.x b.max.y
      ∙ vanish (b.min.x -ℤ a.min.x) (run b) level o.min

  by_rise : side b (point_of a.min) *ℤ rise a ≡ pos 0
  unfolding side run rise point_of tilt
  by_rise =
      by_rise₀ a.min.x a.min.y a.max.x a.max.y b.min.x b.min.y b.max.x b.max.y
      ∙ vanish (b.min.y -ℤ a.min.y) (rise b) level o.min

  min_there : side b (point_of a.min) ≡ pos 0
  min_there = go l
    where
      first : {z : ℤ} → side b (point_of a.min) *ℤ z ≡ pos 0 → pos 0 <ℤ z → side b (point_of a.min) ≡ pos 0
      first {z} e h = ⊎_elim (λ (s : side b (point_of a.min) ≡ pos 0). s) (λ (s : z ≡ pos 0). absurd (<→≢ h (sym s))) (zero_product (side b (point_of a.min)) z e)

      go : Leads a → side b (point_of a.min) ≡ pos 0
      go (rightward h) = first by_run h
      go (upward e h) = first by_rise h

  -- being on one line goes both ways
  pub one_line_turned : OneLine b a
  one_line_turned = record { min = min_there; max = shift _ _ (tilt_first a b ∙ level) min_there }
    where
      shift : (u v : ℤ) → u -ℤ v ≡ pos 0 → u ≡ pos 0 → v ≡ pos 0
      shift u v e f = by_ring (u ∷ v ∷ []) {a = v} {b = u -ℤ (u -ℤ v)} (search terms depth 60 fits 20000) tt ∙ rw (e, f)

-- ---- the ends of a piece on one side of a line, or on both
pub data Opposite (u v : ℤ) : Type 0 where
  down : pos 0 <ℤ u → v <ℤ pos 0 → Opposite u v
  up : u <ℤ pos 0 → pos 0 <ℤ v → Opposite u v

pub data OneSided (u v : ℤ) : Type 0 where
  above : pos 0 <ℤ u → pos 0 <ℤ v → OneSided u v
  below : u <ℤ pos 0 → v <ℤ pos 0 → OneSided u v

-- plain numbers: k and l weighed by s and t come to nothing, and s and t to w
module _ (k l s t w : ℤ) (zero : k *ℤ s +ℤ l *ℤ t ≡ pos 0) (sum : s +ℤ t ≡ w) (h : pos 0 <ℤ w) where
  first : s *ℤ (k -ℤ l) ≡ (pos 0 -ℤ l) *ℤ w
  first =
      by_ring (k ∷ l ∷ s ∷ t ∷ []) {a = s *ℤ (k -ℤ l)} {b = (k *ℤ s +ℤ l *ℤ t) +ℤ (pos 0 -ℤ l) *ℤ (s +ℤ t)} (search terms depth 60 fits 20000) tt
      ∙ rw (zero, sum) (by_ring (l ∷ w ∷ []) (search terms depth 60 fits 20000) tt)

  second : t *ℤ (k -ℤ l) ≡ k *ℤ w
  second =
      by_ring (k ∷ l ∷ s ∷ t ∷ []) {a = t *ℤ (k -ℤ l)} {b = k *ℤ (s +ℤ t) -ℤ (k *ℤ s +ℤ l *ℤ t)} (search terms depth 60 fits 20000) tt
      ∙ rw (zero, sum) (by_ring (k ∷ w ∷ []) (search terms depth 60 fits 20000) tt)

  falling : pos 0 <ℤ k → l <ℤ pos 0 → (pos 0 <ℤ s) × (pos 0 <ℤ t)
  falling p m =
      let d : pos 0 <ℤ (k -ℤ l) = <_cert (k ∷ l ∷ []) (p+p p (<_diff m)) (search terms depth 60 fits 20000) tt in (
        p/p s d (subst (λ (z : ℤ). pos 0 <ℤ z) (sym first) (p*p (<_diff m) h)),
        p/p t d (subst (λ (z : ℤ). pos 0 <ℤ z) (sym second) (p*p p h)),
      )

  never_above : pos 0 ≤ℤ s → pos 0 ≤ℤ t → pos 0 <ℤ k → pos 0 <ℤ l → ⊥
  never_above a b p q = go (tri (pos 0) s)
    where
      go : Tri (pos 0) s → ⊥
      go (less c) = <→≢ (p+n (p*p p c) (n*n (<→≤ q) b)) (sym zero)
      go (same e) = <→≢ (n+p (n*n (<→≤ p) a) (p*p q (subst (λ (z : ℤ). pos 0 <ℤ z) (sym (alone e)) h))) (sym zero)
        where
          alone : pos 0 ≡ s → t ≡ w
          alone e = by_ring (s ∷ t ∷ []) {a = t} {b = s +ℤ t -ℤ s} (search terms depth 60 fits 20000) tt ∙ rw (sum, ← e) (by_ring (w ∷ []) (search terms depth 60 fits 20000) tt)
      go (more c) = clash_ℤ c a

-- the same with the signs turned
module _ (k l s t w : ℤ) (zero : k *ℤ s +ℤ l *ℤ t ≡ pos 0) (sum : s +ℤ t ≡ w) (h : pos 0 <ℤ w) where
  minus : neg_ℤ k *ℤ s +ℤ neg_ℤ l *ℤ t ≡ pos 0
  minus = by_ring (k ∷ l ∷ s ∷ t ∷ []) {a = neg_ℤ k *ℤ s +ℤ neg_ℤ l *ℤ t} {b = neg_ℤ (k *ℤ s +ℤ l *ℤ t)} (search terms depth 60 fits 20000) tt ∙ ap neg_ℤ zero

  both_ahead : Opposite k l → (pos 0 <ℤ s) × (pos 0 <ℤ t)
  both_ahead (down p m) = falling k l s t w zero sum h p m
  both_ahead (up m p) = falling (neg_ℤ k) (neg_ℤ l) s t w minus sum h (neg-< m) (neg-< p)

  not_one_sided : pos 0 ≤ℤ s → pos 0 ≤ℤ t → OneSided k l → ⊥
  not_one_sided a b (above p q) = never_above k l s t w zero sum h a b p q
  not_one_sided a b (below p q) = never_above (neg_ℤ k) (neg_ℤ l) s t w minus sum h a b (neg-< p) (neg-< q)

-- ---- a common point of two lines, and the ends of b
module _ (a b : LineSegment) (p : Point) (l : Leads b) (d : 0 < p.d) (on_a : side a p ≡ pos 0) (on_b : side b p ≡ pos 0) where
  balance : side a (point_of b.min) *ℤ short b p +ℤ side a (point_of b.max) *ℤ past b p ≡ pos 0
  balance = sym (weighed a b p on_b) ∙ rw on_a (*ℤ-zero (length² b))

  total : short b p +ℤ past b p ≡ length² b *ℤ pos p.d
  total = +ℤ_comm (short b p) (past b p) ∙ past_short b p

  long : pos 0 <ℤ (length² b *ℤ pos p.d)
  long = p*p (length_positive b l) (pos-< d)

  -- strictly between them, where they lie on opposite sides
  pub inside : Opposite (side a (point_of b.min)) (side a (point_of b.max)) → (point_order (point_of b.min) p ≡ Less) × (point_order p (point_of b.max) ≡ Less)
  inside o =
      let r = both_ahead _ _ _ _ _ balance total long o in
      (past_order b p l on_b ∙ order_less r.1, short_order b p l on_b ∙ order_less r.0)

  -- not between them at all, where they lie on one
  pub outside : LiesOn b p → OneSided (side a (point_of b.min)) (side a (point_of b.max)) → ⊥
  outside h =
      not_one_sided _ _ _ _ _ balance total long
      (ahead b.max.included (answer (pos 0) (short b p)) (ap (λ (o : Ordering). admits o b.max.included) (sym (short_order b p l on_b)) ∙ h.upto))
      (ahead b.min.included (answer (pos 0) (past b p)) (ap (λ (o : Ordering). admits o b.min.included) (sym (past_order b p l on_b)) ∙ h.from))
    where
      ahead : {z : ℤ} {o : Ordering} (m : Bool) → Answer (pos 0) z o → admits o m ≡ true → pos 0 ≤ℤ z
      ahead m (is_less_lem h) e = <→≤ h
      ahead m (is_equal_lem h) e = ≡→≤ h
      ahead m (is_greater h) e = no (cc)
