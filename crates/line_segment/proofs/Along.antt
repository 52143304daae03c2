-- Along the line of a piece the order of points is that of their distances from its ends, measured along it.
-- `past s p` is how far p lies past the min, `short s p` how far short of the max, both times D and the piece's length.
use mathlib.Core.Path.{◌≡◌, sym, ap, ◌∙◌, subst}
use mathlib.Core.List.{[], ◌∷◌}
use mathlib.Core.Logic.{⊎_elim}
use lib.IntN.{ℤ, pos, neg_ℤ, ◌+ℤ◌, ◌-ℤ◌, ◌*ℤ◌}
use lib.Signed.{◌<ℤ◌}
use Rattle.integers.proofs.Identity.{by_ring, terms}
use Rattle.integers.proofs.Signs.{<_diff, n+p, p+n, p*p, sq}
use Rattle.integers.proofs.Order.{<_cert, <→≢}
use Rattle.integers.proofs.Factors.{p/p, m/p, p*m, zero_product}
use Rattle.std.specs.declared.cmp.Ordering.{Ordering}
use Rattle.std.specs.declared.cmp.Ordering.TheVariants.{Less}
use Rattle.fractions.specs.declared.Point.{Point}
use Rattle.fractions.specs.Order.{order}
use Rattle.fractions.specs.Point.{point_order}
use Rattle.fractions.proofs.Orders.{order_less, order_equal, order_greater}
use Rattle.fractions.proofs.Points.{Places, left, below, same, above, right, places}
use Rattle.line_segment.specs.declared.LineSegment.{LineSegment}
use Rattle.line_segment.specs.Piece.{point_of, end_order, HasLength}
use Rattle.line_segment.specs.Geometry.{run, rise, side}

-- ---- a piece of some length leads to the right, or straight up
pub data Leads (s : LineSegment) : Type 0 where
  rightward : pos 0 <ℤ run s → Leads s
  upward : run s ≡ pos 0 → pos 0 <ℤ rise s → Leads s

ones : (a b : ℤ) → (a *ℤ pos 1) <ℤ (b *ℤ pos 1) → pos 0 <ℤ (b -ℤ a)
ones a b h = <_cert (a ∷ b ∷ []) (<_diff h) (search terms depth 60 fits 20000) tt

one : (a b : ℤ) → a *ℤ pos 1 ≡ b *ℤ pos 1 → b -ℤ a ≡ pos 0
one a b e = by_ring (a ∷ b ∷ []) {a = b -ℤ a} {b = b *ℤ pos 1 -ℤ a *ℤ pos 1} (search terms depth 60 fits 20000) tt ∙ rw e (by_ring (b ∷ []) (search terms depth 60 fits 20000) tt)

pub leads : (s : LineSegment) → HasLength s → Leads s
unfolding end_order point_of run rise
leads s h = go (subst (Places (point_of s.min) (point_of s.max)) h (places (point_of s.min) (point_of s.max)))
  where
    go : Places (point_of s.min) (point_of s.max) Less → Leads s
    go (left k) = rightward (ones s.min.x s.max.x k)
    go (below e k) = upward (one s.min.x s.max.x e) (ones s.min.y s.max.y k)

-- ---- plain numbers: a step u, v along a direction r, q
module _ (r q u v : ℤ) (flat : r *ℤ v -ℤ q *ℤ u ≡ pos 0) where
  slide : (r *ℤ u +ℤ q *ℤ v) *ℤ r ≡ u *ℤ (r *ℤ r +ℤ q *ℤ q)
  slide =
      by_ring (r ∷ q ∷ u ∷ v ∷ []) {a = (r *ℤ u +ℤ q *ℤ v) *ℤ r} {b = u *ℤ (r *ℤ r +ℤ q *ℤ q) +ℤ q *ℤ (r *ℤ v -ℤ q *ℤ u)} (search terms depth 60 fits 20000) tt
      ∙ rw flat (by_ring (r ∷ q ∷ u ∷ []) (search terms depth 60 fits 20000) tt)

  module _ (h : pos 0 <ℤ r) where
    longer : pos 0 <ℤ (r *ℤ r +ℤ q *ℤ q)
    longer = p+n (p*p h h) (sq q)

    right_ahead : pos 0 <ℤ u → pos 0 <ℤ (r *ℤ u +ℤ q *ℤ v)
    right_ahead k = p/p (r *ℤ u +ℤ q *ℤ v) h (subst (λ (z : ℤ). pos 0 <ℤ z) (sym slide) (p*p k longer))

    right_back : u <ℤ pos 0 → (r *ℤ u +ℤ q *ℤ v) <ℤ pos 0
    right_back k = m/p (r *ℤ u +ℤ q *ℤ v) h (subst (λ (z : ℤ). z <ℤ pos 0) (sym slide) (<_cert (u ∷ r ∷ q ∷ []) (p*p (<_diff k) longer) (search terms depth 60 fits 20000) tt))

    right_still : u ≡ pos 0 → v ≡ pos 0
    right_still e = ⊎_elim (λ (z : r ≡ pos 0). absurd (<→≢ h (sym z))) (λ (z : v ≡ pos 0). z) (zero_product r v (up e))
      where
        up : u ≡ pos 0 → r *ℤ v ≡ pos 0
        up e = by_ring (r ∷ q ∷ v ∷ []) {a = r *ℤ v} {b = r *ℤ v -ℤ q *ℤ pos 0} (search terms depth 60 fits 20000) tt ∙ ap (λ (z : ℤ). r *ℤ v -ℤ q *ℤ z) (sym e) ∙ flat

  module _ (e : r ≡ pos 0) (h : pos 0 <ℤ q) where
    up_still : u ≡ pos 0
    up_still = ⊎_elim (λ (z : q ≡ pos 0). absurd (<→≢ h (sym z))) (λ (z : u ≡ pos 0). z) (zero_product q u flat')
      where
        flat' : q *ℤ u ≡ pos 0
        flat' = by_ring (q ∷ u ∷ v ∷ []) {a = q *ℤ u} {b = neg_ℤ (pos 0 *ℤ v -ℤ q *ℤ u)} (search terms depth 60 fits 20000) tt ∙ ap (λ (z : ℤ). neg_ℤ (z *ℤ v -ℤ q *ℤ u)) (sym e) ∙ ap neg_ℤ flat

    up_is : r *ℤ u +ℤ q *ℤ v ≡ q *ℤ v
    up_is = rw e (by_ring (q ∷ u ∷ v ∷ []) (search terms depth 60 fits 20000) tt)

-- the sign of the distance
module _ (s : LineSegment) (u v : ℤ) (flat : run s *ℤ v -ℤ rise s *ℤ u ≡ pos 0) where
  abbrev along : ℤ
  along = run s *ℤ u +ℤ rise s *ℤ v

  ahead_x : Leads s → pos 0 <ℤ u → pos 0 <ℤ along
  ahead_x (rightward h) k = right_ahead (run s) (rise s) u v flat h k
  ahead_x (upward e h) k = absurd (<→≢ k (sym (up_still (run s) (rise s) u v flat e h)))

  ahead_y : Leads s → u ≡ pos 0 → pos 0 <ℤ v → pos 0 <ℤ along
  ahead_y (rightward h) d k = absurd (<→≢ k (sym (right_still (run s) (rise s) u v flat h d)))
  ahead_y (upward e h) d k = subst (λ (z : ℤ). pos 0 <ℤ z) (sym (up_is (run s) (rise s) u v flat e h)) (p*p h k)

  still : u ≡ pos 0 → v ≡ pos 0 → along ≡ pos 0
  still e f = rw (e, f) (by_ring (run s ∷ rise s ∷ []) (search terms depth 60 fits 20000) tt)

  back_x : Leads s → u <ℤ pos 0 → along <ℤ pos 0
  back_x (rightward h) k = right_back (run s) (rise s) u v flat h k
  back_x (upward e h) k = absurd (<→≢ k (up_still (run s) (rise s) u v flat e h))

  back_y : Leads s → u ≡ pos 0 → v <ℤ pos 0 → along <ℤ pos 0
  back_y (rightward h) d k = absurd (<→≢ k (right_still (run s) (rise s) u v flat h d))
  back_y (upward e h) d k = subst (λ (z : ℤ). z <ℤ pos 0) (sym (up_is (run s) (rise s) u v flat e h)) (p*m h k)

-- ---- past the min, and short of the max
module _ (s : LineSegment) (p : Point) where
  unfoldable pub past : ℤ
  past = run s *ℤ (p.x -ℤ s.min.x *ℤ pos p.d) +ℤ rise s *ℤ (p.y -ℤ s.min.y *ℤ pos p.d)

  unfoldable pub short : ℤ
  short = run s *ℤ (s.max.x *ℤ pos p.d -ℤ p.x) +ℤ rise s *ℤ (s.max.y *ℤ pos p.d -ℤ p.y)

pub length² : LineSegment → ℤ
length² s = run s *ℤ run s +ℤ rise s *ℤ rise s

pub length_positive : (s : LineSegment) → Leads s → pos 0 <ℤ length² s
unfolding length²
length_positive s (rightward h) = p+n (p*p h h) (sq (rise s))
length_positive s (upward e h) = n+p (sq (run s)) (p*p h h)

over_one : (a b : ℤ) → a <ℤ (b *ℤ pos 1) → pos 0 <ℤ (b -ℤ a)
over_one a b h = <_cert (a ∷ b ∷ []) (<_diff h) (search terms depth 60 fits 20000) tt

under_one : (a b : ℤ) → (b *ℤ pos 1) <ℤ a → (b -ℤ a) <ℤ pos 0
under_one a b h = <_cert (a ∷ b ∷ []) (<_diff h) (search terms depth 60 fits 20000) tt

at_one : (a b : ℤ) → a ≡ b *ℤ pos 1 → b -ℤ a ≡ pos 0
at_one a b e = rw e (by_ring (b ∷ []) (search terms depth 60 fits 20000) tt)

one_over : (a b : ℤ) → (a *ℤ pos 1) <ℤ b → pos 0 <ℤ (b -ℤ a)
one_over a b h = <_cert (a ∷ b ∷ []) (<_diff h) (search terms depth 60 fits 20000) tt

one_under : (a b : ℤ) → b <ℤ (a *ℤ pos 1) → (b -ℤ a) <ℤ pos 0
one_under a b h = <_cert (a ∷ b ∷ []) (<_diff h) (search terms depth 60 fits 20000) tt

one_at : (a b : ℤ) → a *ℤ pos 1 ≡ b → b -ℤ a ≡ pos 0
one_at a b e = rw (← e) (by_ring (a ∷ []) (search terms depth 60 fits 20000) tt)

module _ (s : LineSegment) (p : Point) (l : Leads s) (on : side s p ≡ pos 0) where
  pub past_order : point_order (point_of s.min) p ≡ order (pos 0) (past s p)
  unfolding past side point_of
  past_order = go (places (point_of s.min) p)
    where
      go : {o : Ordering} → Places (point_of s.min) p o → o ≡ order (pos 0) (past s p)
      go (left h) = sym (order_less (ahead_x s _ _ on l (over_one _ p.x h)))
      go (below e h) = sym (order_less (ahead_y s _ _ on l (at_one _ p.x e) (over_one _ p.y h)))
      go (same e f) = sym (order_equal (sym (still s _ _ on (at_one _ p.x e) (at_one _ p.y f))))
      go (above e h) = sym (order_greater (back_y s _ _ on l (at_one _ p.x e) (under_one _ p.y h)))
      go (right h) = sym (order_greater (back_x s _ _ on l (under_one _ p.x h)))

  other_end₀ : (x1 y1 x2 y2 X Y D : ℤ) → (x2 -ℤ x1) *ℤ (y2 *ℤ D -ℤ Y) -ℤ (y2 -ℤ y1) *ℤ (x2 *ℤ D -ℤ X) ≡ neg_ℤ ((x2 -ℤ x1) *ℤ (Y -ℤ y1 *ℤ D) -ℤ (y2 -ℤ y1) *ℤ (X -ℤ x1 *ℤ D))
  other_end₀ x1 y1 x2 y2 X Y D = by_ring (x1 ∷ y1 ∷ x2 ∷ y2 ∷ X ∷ Y ∷ D ∷ []) (search terms depth 60 fits 20000) tt

  on' : run s *ℤ (s.max.y *ℤ pos p.d -ℤ p.y) -ℤ rise s *ℤ (s.max.x *ℤ pos p.d -ℤ p.x) ≡ pos 0
  unfolding run rise side
  on' = other_end₀ s.min.x s.min.y s.max.x s.max.y p.x p.y (pos p.d) ∙ ap neg_ℤ on

  pub short_order : point_order p (point_of s.max) ≡ order (pos 0) (short s p)
  unfolding short point_of
  short_order = go (places p (point_of s.max))
    where
      go : {o : Ordering} → Places p (point_of s.max) o → o ≡ order (pos 0) (short s p)
      go (left h) = sym (order_less (ahead_x s _ _ on' l (one_over p.x _ h)))
      go (below e h) = sym (order_less (ahead_y s _ _ on' l (one_at p.x _ e) (one_over p.y _ h)))
      go (same e f) = sym (order_equal (sym (still s _ _ on' (one_at p.x _ e) (one_at p.y _ f))))
      go (above e h) = sym (order_greater (back_y s _ _ on' l (one_at p.x _ e) (one_under p.y _ h)))
      go (right h) = sym (order_greater (back_x s _ _ on' l (one_under p.x _ h)))

-- the two distances make up the whole, and weigh the ends' sides
module _ (x1 y1 x2 y2 X Y D : ℤ) where
  whole₀ : ((x2 -ℤ x1) *ℤ (X -ℤ x1 *ℤ D) +ℤ (y2 -ℤ y1) *ℤ (Y -ℤ y1 *ℤ D)) +ℤ ((x2 -ℤ x1) *ℤ (x2 *ℤ D -ℤ X) +ℤ (y2 -ℤ y1) *ℤ (y2 *ℤ D -ℤ Y))
      ≡ ((x2 -ℤ x1) *ℤ (x2 -ℤ x1) +ℤ (y2 -ℤ y1) *ℤ (y2 -ℤ y1)) *ℤ D
  whole₀ = by_ring (x1 ∷ y1 ∷ x2 ∷ y2 ∷ X ∷ Y ∷ D ∷ []) (search terms depth 60 fits 20000) tt

pub past_short : (s : LineSegment) (p : Point) → past s p +ℤ short s p ≡ length² s *ℤ pos p.d
unfolding past short length² run rise
past_short s p = whole₀ s.min.x s.min.y s.max.x s.max.y p.x p.y (pos p.d)

module _ (x1 y1 x2 y2 x1' y1' x2' y2' X Y D : ℤ) where
  weighed₀ :
      ((x2' -ℤ x1') *ℤ (x2' -ℤ x1') +ℤ (y2' -ℤ y1') *ℤ (y2' -ℤ y1')) *ℤ ((x2 -ℤ x1) *ℤ (Y -ℤ y1 *ℤ D) -ℤ (y2 -ℤ y1) *ℤ (X -ℤ x1 *ℤ D))
      ≡ ((x2 -ℤ x1) *ℤ (y1' -ℤ y1 *ℤ pos 1) -ℤ (y2 -ℤ y1) *ℤ (x1' -ℤ x1 *ℤ pos 1)) *ℤ ((x2' -ℤ x1') *ℤ (x2' *ℤ D -ℤ X) +ℤ (y2' -ℤ y1') *ℤ (y2' *ℤ D -ℤ Y))
      +ℤ ((x2 -ℤ x1) *ℤ (y2' -ℤ y1 *ℤ pos 1) -ℤ (y2 -ℤ y1) *ℤ (x2' -ℤ x1 *ℤ pos 1)) *ℤ ((x2' -ℤ x1') *ℤ (X -ℤ x1' *ℤ D) +ℤ (y2' -ℤ y1') *ℤ (Y -ℤ y1' *ℤ D))
      +ℤ ((x2' -ℤ x1') *ℤ (Y -ℤ y1' *ℤ D) -ℤ (y2' -ℤ y1') *ℤ (X -ℤ x1' *ℤ D)) *ℤ ((x2 -ℤ x1) *ℤ (x2' -ℤ x1') +ℤ (y2 -ℤ y1) *ℤ (y2' -ℤ y1'))
  weighed₀ = by_ring (x1 ∷ y1 ∷ x2 ∷ y2 ∷ x1' ∷ y1' ∷ x2' ∷ y2' ∷ X ∷ Y ∷ D ∷ []) (search terms depth 60 fits 20000) tt

-- on the line of b, the side of a is that of b's ends, weighed by the distances from them
pub weighed : (a b : LineSegment) (p : Point) → side b p ≡ pos 0 → length² b *ℤ side a p ≡ side a (point_of b.min) *ℤ short b p +ℤ side a (point_of b.max) *ℤ past b p
unfolding length² short past side run rise point_of
weighed a b p e =
    weighed₀ a.min.x a.min.y a.max.x a.max.y b.min.x b.min.y b.max.x b.max.y p.x p.y (pos p.d)
    ∙ ap (λ (z : ℤ). side a (point_of b.min) *ℤ short b p +ℤ side a (point_of b.max) *ℤ past b p +ℤ z *ℤ (run a *ℤ run b +ℤ rise a *ℤ rise b)) e
    ∙ drop₀ (side a (point_of b.min) *ℤ short b p) (side a (point_of b.max) *ℤ past b p) (run a *ℤ run b +ℤ rise a *ℤ rise b)
  where
    drop₀ : (u v w : ℤ) → u +ℤ v +ℤ pos 0 *ℤ w ≡ u +ℤ v
    drop₀ u v w = by_ring (u ∷ v ∷ w ∷ []) (search terms depth 60 fits 20000) tt
