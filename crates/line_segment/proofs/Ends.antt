-- The order of two pairs of numbers, and of two ends by their coordinates.
use mathlib.Core.Path.{◌≡◌}
use lib.IntN.{ℤ}
use lib.Signed.{◌≤ℤ◌, ◌<ℤ◌}
use Rattle.integers.proofs.Ring.{*ℤ_idr}
use Rattle.integers.proofs.Order.{≤_antisym}
use Rattle.std.specs.declared.cmp.Ordering.{Ordering}
use Rattle.std.specs.declared.cmp.Ordering.TheVariants.{Less, Greater}
use Rattle.fractions.specs.Order.{order, and_then}
use Rattle.fractions.specs.Fraction.{ratio_order}
use Rattle.fractions.specs.Point.{point_order}
use Rattle.fractions.proofs.Orders.{order_less, order_equal, order_greater}
use Rattle.line_segment.specs.declared.EndPoint.{EndPoint}
use Rattle.line_segment.specs.Piece.{point_of, end_order}

-- the order of (a, c) and (b, d)
abbrev pub pair_order : ℤ → ℤ → ℤ → ℤ → Ordering
pair_order a c b d = and_then (order a b) (order c d)

module _ (o : Ordering) {a b : ℤ} where
  pub less_first : a <ℤ b → Less ≡ and_then (order a b) o
  less_first h = rw (order_less h)

  pub greater_first : b <ℤ a → Greater ≡ and_then (order a b) o
  greater_first h = rw (order_greater h)

module _ {a b c d : ℤ} (u : a ≤ℤ b) (v : b ≤ℤ a) where
  pub less_second : c <ℤ d → Less ≡ pair_order a c b d
  less_second h = rw (order_equal (≤_antisym u v), order_less h)

  pub greater_second : d <ℤ c → Greater ≡ pair_order a c b d
  greater_second h = rw (order_equal (≤_antisym u v), order_greater h)

pub end_order_is : (e f : EndPoint) → end_order e f ≡ pair_order e.x e.y f.x f.y
unfolding end_order point_of point_order ratio_order
end_order_is e f = simp *ℤ_idr
