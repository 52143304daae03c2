-- The ends of the array's pieces, by number: where they stand, and which of two is before the other.
use mathlib.Core.Path.{◌≡◌, refl, sym, ap, ap₂, ◌∙◌}
use mathlib.Core.Bool.{Bool, true, false, cond}
use mathlib.Core.List.{List}
use Prim.Native.Nat.{ℕ, ◌+◌, ◌*◌, ◌/◌, ◌%◌}
use native.Mathlib.Omega.{arith}
use borrow.Author.Tests.{eqb-true, eqb-false}
use lib.Dec.{eqb}
use lib.IntN.{ℤ}
use lib.Signed.{lt_z, ◌≤ℤ◌, ◌<ℤ◌}
use Rattle.fractions.specs.Order.{order, and_then}
use Rattle.fractions.specs.Point.{point_order, whole_of}
use Rattle.fractions.specs.declared.Point.{Point}
use Rattle.fractions.proofs.Orders.{order_less, order_equal, order_greater}
use Rattle.integers.proofs.Order.{≤_antisym}
use Rattle.line_segment.specs.Piece.{point_of, end_order}
use Rattle.line_segment.proofs.Ends.{end_order_is}
use Rattle.sweep.specs.Chart.{same}
use Rattle.sweep.specs.Ported.{is_less, is_equal}
use Rattle.ported_arrays.specs.Numbers.{is_min, end_of, end_before, end_at}
use Rattle.ported_pieces.specs.Table.{number_in, piece_in, chart_in}
use Rattle.ported_heights.proofs.Answers.{is_less_than, neither_less}

-- where the x of an end stands in the array
abbrev pub place : ℕ → ℕ
place e = 5 * (e / 2) + 2 * (e % 2)

-- points of whole coordinates, by x and then by y
whole_order : (x y u v : ℤ) → point_order (whole_of x y) (whole_of u v) ≡ and_then (order x u) (order y v)
unfolding end_order point_of
whole_order x y u v = end_order_is (record { x = x; y = y; included = true }) (record { x = u; y = v; included = true })

module _ (n : ℕ) (table : List ℤ) where
  abbrev end : ℕ → Point
  end e = whole_of (number_in table (place e)) (number_in table (place e + 1))

  end_is : (e : ℕ) → end e ≡ end_of (chart_in n table) e
  unfolding end_of is_min piece_in point_of
  end_is e = go (eqb (e % 2) 0) refl
    where
      at : {i j k : ℕ} → i ≡ j → i + 1 ≡ k → ◌≡◌ {A = Point} (whole_of (number_in table i) (number_in table (i + 1))) (whole_of (number_in table j) (number_in table k))
      at p q t = whole_of (number_in table (p t)) (number_in table (q t))

      go : (t : Bool) → eqb (e % 2) 0 ≡ t →
          end e ≡ cond t
          (whole_of (number_in table (5 * (e / 2))) (number_in table (5 * (e / 2) + 1)))
          (whole_of (number_in table (5 * (e / 2) + 2)) (number_in table (5 * (e / 2) + 3)))
      go true h = at (omega (arith, eqb-true (e % 2) 0 h)) (omega (arith, eqb-true (e % 2) 0 h))
      go false h = at (omega (arith, eqb-false (e % 2) 0 h)) (omega (arith, eqb-false (e % 2) 0 h))

  pub the_end : (e : ℕ) {i : ℕ} {x y : ℤ} → i ≡ place e → x ≡ number_in table i → y ≡ number_in table (i + 1) → whole_of x y ≡ end_of (chart_in n table) e
  the_end e hi hx hy =
      (λ k. whole_of (hx k) (hy k)) ∙ ap (λ (i : ℕ). whole_of (number_in table i) (number_in table (i + 1))) hi ∙ end_is e

  pub end_at_is : (e : ℕ) (p : Point) → is_equal (point_order (end_of (chart_in n table) e) p) ≡ end_at (chart_in n table) p e
  unfolding end_at same
  end_at_is e p = neither_less (end_of (chart_in n table) e) p

  -- the ends a and b, whose x stand at i and j
  module _ (a b : ℕ) {i j : ℕ} (hi : i ≡ place a) (hj : j ≡ place b) where
    ends : is_less (and_then (order (number_in table i) (number_in table j)) (order (number_in table (i + 1)) (number_in table (j + 1)))) ≡ end_before (chart_in n table) a b
    unfolding end_before
    ends =
        ap₂ (λ (i j : ℕ). is_less (and_then (order (number_in table i) (number_in table j)) (order (number_in table (i + 1)) (number_in table (j + 1))))) hi hj
        ∙ ap is_less (sym (whole_order _ _ _ _) ∙ ap₂ point_order (end_is a) (end_is b))

    module _ {x u : ℤ} (hx : x ≡ number_in table i) (hu : u ≡ number_in table j) where
      pub left_of : x <ℤ u → true ≡ end_before (chart_in n table) a b
      left_of h = rw (← hx, ← hu, order_less h) at ends

      pub right_of : u <ℤ x → false ≡ end_before (chart_in n table) a b
      right_of h = rw (← hx, ← hu, order_greater h) at ends

      pub below : u ≤ℤ x → x ≤ℤ u → {y v : ℤ} → y ≡ number_in table (i + 1) → v ≡ number_in table (j + 1) → lt_z y v ≡ end_before (chart_in n table) a b
      below h k {y} {v} hy hv = is_less_than y v ∙ (rw (← hx, ← hu, order_equal (≤_antisym k h), ← hy, ← hv) at ends)
