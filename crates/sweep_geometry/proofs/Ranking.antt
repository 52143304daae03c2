-- Numbered pieces by a height, then slope, then number: a strict total order, whatever the height and the slope are.
use mathlib.Core.Path.{◌≡◌, refl, ap, ◌∙◌}
use mathlib.Core.Logic.{◌≢◌}
use mathlib.Core.Bool.{true, false}
use Prim.Native.Nat.{ℕ}
use lib.IntN.{pos}
use Rattle.integers.proofs.Naturals.{pos_injective}
use Rattle.fractions.specs.Order.{order, turned, and_then}
use Rattle.std.specs.declared.cmp.Ordering.{Ordering}
use Rattle.std.specs.declared.cmp.Ordering.TheVariants.{Less, Equal, Greater}
use Rattle.fractions.proofs.Orders.{order_equal, equal_order}
use Rattle.line_segment.specs.declared.LineSegment.{LineSegment}
use Rattle.line_segment.proofs.Along.{Leads}
use Rattle.sweep.specs.Ported.{is_less}
use Rattle.sweep.proofs.Tests.{clash}
use Rattle.sweep_geometry.proofs.Comparisons.{Said, said_less, said_equal, said_greater, say, then_equal, Orders, then_orders, number_orders}

pub less_is : (o : Ordering) → is_less o ≡ true → o ≡ Less
less_is Less e = refl
less_is Equal e = clash e refl
less_is Greater e = clash e refl

module _ (piece : ℕ → LineSegment) (height lean : LineSegment → LineSegment → Ordering) where
  abbrev pub rank : ℕ → ℕ → Ordering
  rank i j = and_then (height (piece i) (piece j)) (and_then (lean (piece i) (piece j)) (order (pos i) (pos j)))

  pub rank_irr : ((s : LineSegment) → height s s ≡ Equal) → ((s : LineSegment) → lean s s ≡ Equal) → (i : ℕ) → is_less (rank i i) ≡ false
  rank_irr h l i = rw (h (piece i), l (piece i), order_equal {a = pos i} refl)

  rank_equal : (i j : ℕ) → rank i j ≡ Equal → i ≡ j
  rank_equal i j e =
      let h = then_equal (height (piece i) (piece j)) (and_then (lean (piece i) (piece j)) (order (pos i) (pos j))) e in
      pos_injective (equal_order (pos i) (pos j) (then_equal (lean (piece i) (piece j)) (order (pos i) (pos j)) h.1).1)

  module _ (H : Orders Leads height) (L : Orders Leads lean) where
    numbered : {f : LineSegment → LineSegment → Ordering} → Orders Leads f → Orders (λ i. Leads (piece i)) (λ i j. f (piece i) (piece j))
    numbered F =
        record {
          turns = λ i j a b. F.turns (piece i) (piece j) a b;
          alike = λ i j k a b c. F.alike (piece i) (piece j) (piece k) a b c;
          chain = λ i j k a b c. F.chain (piece i) (piece j) (piece k) a b c;
        }

    rank_orders : Orders (λ i. Leads (piece i)) rank
    rank_orders = then_orders (numbered H) (then_orders (numbered L) number_orders)

    module _ (i j : ℕ) (a : Leads (piece i)) (b : Leads (piece j)) where
      pub rank_trans : (k : ℕ) → Leads (piece k) → is_less (rank i j) ≡ true → is_less (rank j k) ≡ true → is_less (rank i k) ≡ true
      rank_trans k c e f = ap is_less (rank_orders.chain i j k a b c (less_is (rank i j) e) (less_is (rank j k) f))

      pub rank_total : i ≢ j → is_less (rank i j) ≡ false → is_less (rank j i) ≡ true
      rank_total ne e = go (say (rank i j))
        where
          go : Said (rank i j) → is_less (rank j i) ≡ true
          go (said_less h) = clash (ap is_less h) e
          go (said_equal h) = absurd (ne (rank_equal i j h))
          go (said_greater h) = ap is_less (rank_orders.turns i j a b ∙ ap turned h)
