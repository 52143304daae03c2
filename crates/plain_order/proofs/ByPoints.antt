-- The order of pairs is that of their first common points, however these are written, and then of the numbers.
-- Assumes nothing.
use mathlib.Core.Path.{◌≡◌, refl, ap, ◌∙◌}
use mathlib.Core.Logic.{◌⊎◌, inl, inr, ⊎_elim}
use mathlib.Core.Bool.{true, false}
use Prim.Native.Nat.{ℕ, ◌<◌}
use native.Mathlib.Omega.{arith}
use borrow.Author.Tests.{ltb-true, ltb-false}
use lib.Dec.{ltb}
use lib.IntN.{pos}
use Rattle.integers.proofs.Naturals.{pos-<}
use Rattle.fractions.specs.Order.{turned, and_then}
use Rattle.fractions.specs.Point.{point_order}
use Rattle.std.specs.declared.cmp.Ordering.{Ordering}
use Rattle.std.specs.declared.cmp.Ordering.TheVariants.{Less, Equal, Greater}
use Rattle.fractions.specs.declared.Point.{Point}
use Rattle.fractions.proofs.Orders.{order_less, order_equal, order_greater}
use Rattle.fractions.proofs.Points.{point_turned, point_alike, point_alike'}
use Rattle.line_segment.specs.declared.LineSegment.{LineSegment}
use Rattle.line_segment.specs.Demand.{Meet}
use Rattle.charts.specs.Piece.{piece_at}
use Rattle.charts.proofs.Accepted.{pieces_have_length}
use Rattle.naive.specs.Pairs.{Pair}
use Rattle.naive.specs.Demand.{Before}
use Rattle.sweep.specs.Ported.{is_less}
use Rattle.sweep.proofs.Tests.{ask, clash}
use Rattle.sweep_geometry.specs.Demand.{LeastCommon}
use Rattle.plain_order.specs.Order.{first_at, number_order, before}
use Rattle.plain_order.specs.Demand.{BeforeExactly}
use Rattle.plain_order.proofs.First.{first_is_least}

-- two least common points are one point
one_least : (a b : LineSegment) (p q : Point) → LeastCommon a b p → LeastCommon a b q → point_order p q ≡ Equal
one_least a b p q h k = go (point_order p q) refl
  where
    go : (o : Ordering) → point_order p q ≡ o → point_order p q ≡ Equal
    go Less e = absurd (k.least p h.common (point_turned p q ∙ ap turned e))
    go Equal e = e
    go Greater e = absurd (h.least q k.common e)

-- ---- the order of numbers
pub data Stands (j k : ℕ) : Type 0 where
  first : j < k → Stands j k
  level : j ≡ k → Stands j k
  last : k < j → Stands j k

pub stands : (j k : ℕ) → Stands j k
stands j k =
    ⊎_elim
    (λ (e : ltb j k ≡ true). first (ltb-true j k e))
    (λ (e : ltb j k ≡ false).
    ⊎_elim
    (λ (d : ltb k j ≡ true). last (ltb-true k j d))
    (λ (d : ltb k j ≡ false). level (omega (arith, ltb-false j k e, ltb-false k j d)))
    (ask (ltb k j)))
    (ask (ltb j k))

pub numbers_less : (q s : Pair) → Before q s → is_less (number_order q s) ≡ true
numbers_less q s (inl h) = rw (order_less (pos-< h))
numbers_less q s (inr h) = rw (order_equal {a = pos q.0} {b = pos s.0} (ap pos h.0), order_less (pos-< h.1))

pub less_numbers : (q s : Pair) → is_less (number_order q s) ≡ true → Before q s
less_numbers q s e = go (stands q.0 s.0) (stands q.1 s.1)
  where
    go : Stands q.0 s.0 → Stands q.1 s.1 → Before q s
    go (first h) k = inl h
    go (level d) (first k) = inr (d, k)
    go (level d) (level k) = clash e (rw (order_equal {a = pos q.0} {b = pos s.0} (ap pos d), order_equal {a = pos q.1} {b = pos s.1} (ap pos k)))
    go (level d) (last k) = clash e (rw (order_equal {a = pos q.0} {b = pos s.0} (ap pos d), order_greater (pos-< k)))
    go (last h) k = clash e (rw (order_greater (pos-< h)))

-- ---- of two meeting pairs
pub before_exactly : BeforeExactly
unfolding before
before_exactly list n e q s h k p t f g = (
  λ b. forth (point_order p t) refl (rw points at b),
  λ o. ⊎_elim
      (λ (l : point_order p t ≡ Less). rw (points ∙ l))
      (λ (l : (point_order p t ≡ Equal) × Before q s). rw (points ∙ l.0) (numbers_less q s l.1))
      o,
)
  where
    at_first : (q : Pair) → (q.0 < q.1) × (q.1 < n) × Meet (piece_at list q.0) (piece_at list q.1) → LeastCommon (piece_at list q.0) (piece_at list q.1) (first_at list q)
    at_first q h =
        let l : q.0 < n = omega (arith, h.0, h.1) in
        first_is_least _ _ (pieces_have_length list n q.0 e l) (pieces_have_length list n q.1 e h.1) h.2

    points : point_order (first_at list q) (first_at list s) ≡ point_order p t
    points =
        let a = at_first q h in
        let b = at_first s k in
        point_alike (first_at list q) p (first_at list s) a.common.positive f.common.positive (one_least _ _ (first_at list q) p a f)
        ∙ point_alike' p (first_at list s) t b.common.positive g.common.positive (one_least _ _ (first_at list s) t b g)

    forth : (o : Ordering) → point_order p t ≡ o → is_less (and_then (point_order p t) (number_order q s)) ≡ true → (point_order p t ≡ Less) ⊎ ((point_order p t ≡ Equal) × Before q s)
    forth Less x b = inl x
    forth Equal x b = inr (x, less_numbers q s (rw x at b))
    forth Greater x b = clash b (rw x)
