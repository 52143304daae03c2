-- Cramer's point compares as the crossing, which is the same point in lowest terms: whatever its three numbers are, they
-- are those of the crossing times one factor.
use mathlib.Core.Path.{◌≡◌, refl, sym, ap, ap₂, ◌∙◌}
use mathlib.Core.Logic.{◌⊎◌, inl, inr}
use mathlib.Core.List.{List, [], ◌∷◌}
use Prim.Native.Nat.{ℕ, zero, suc, ◌*◌, ◌<◌}
use native.Mathlib.Nat.{div-mul_cancel}
use native.Mathlib.Omega.{arith}
use lib.IntN.{ℤ, pos, ◌*ℤ◌}
use Rattle.integers.proofs.Identity.{by_ring, terms}
use Rattle.integers.proofs.Naturals.{pos-<}
use Rattle.fractions.specs.Order.{order, turned, and_then}
use Rattle.fractions.specs.Fraction.{ratio_order}
use Rattle.fractions.specs.Point.{point_order, common, lowest_of}
use Rattle.fractions.specs.declared.Point.{Point}
use Rattle.fractions.proofs.Points.{point_turned}
use Rattle.fractions.proofs.Quotient.{quot_times, same_record}
use Rattle.fractions.proofs.LowestTerms.{is_common, already_lowest}
use Rattle.line_segment.specs.declared.LineSegment.{LineSegment}
use Rattle.line_segment.specs.Segment.{cramer_of, crossing_of}
use Rattle.sweep.specs.Lists.{Pair}
use Rattle.sweep.specs.Chart.{same, at}
use Rattle.sweep.specs.Ported.{is_less, is_equal}
use Rattle.ported_arrays.specs.Numbers.{pair_of, crossing_before, crossing_at}
use Rattle.fractions.proofs.Ratios.{order_scaled}
use Rattle.ported_pieces.specs.Table.{piece_in, chart_in, rough_at}
use Rattle.ported_heights.proofs.Answers.{neither_less}

-- ---- a factor above 0 in all three numbers of a point
module _ (g : ℕ) (up : 0 < g) where
  ratio_scaled : (x : ℤ) (d : ℕ) (u : ℤ) (e : ℕ) → ratio_order (x *ℤ pos g) (d * g) u e ≡ ratio_order x d u e
  unfolding ratio_order
  ratio_scaled x d u e =
      ap₂ order (swap x (pos g) (pos e)) (regroup u (pos d) (pos g)) ∙ sym (order_scaled (x *ℤ pos e) (u *ℤ pos d) (pos g) (pos-< up))
    where
      swap : (x g e : ℤ) → x *ℤ g *ℤ e ≡ x *ℤ e *ℤ g
      swap x g e = by_ring (x ∷ g ∷ e ∷ []) (search terms depth 60 fits 20000) tt

      regroup : (u d g : ℤ) → u *ℤ (d *ℤ g) ≡ u *ℤ d *ℤ g
      regroup u d g = by_ring (u ∷ d ∷ g ∷ []) (search terms depth 60 fits 20000) tt

  point_scaled : (p q : Point) → point_order (record { x = p.x *ℤ pos g; y = p.y *ℤ pos g; d = p.d * g }) q ≡ point_order p q
  unfolding point_order
  point_scaled p q = ap₂ and_then (ratio_scaled p.x p.d q.x q.d) (ratio_scaled p.y p.d q.y q.d)

zero_or_not : (n : ℕ) → (n ≡ 0) ⊎ (0 < n)
zero_or_not zero = inl refl
zero_or_not (suc n) = inr (omega arith)

pub lowest_alike : (p q : Point) → point_order p q ≡ point_order (lowest_of p.x p.y p.d) q
lowest_alike p q = go (zero_or_not g)
  where
    g : ℕ
    g = common p.x p.y p.d

    go : (g ≡ 0) ⊎ (0 < g) → point_order p q ≡ point_order (lowest_of p.x p.y p.d) q
    go (inl e) = ap (λ (r : Point). point_order r q) (already_lowest p.x p.y p.d (omega arith))
    go (inr h) =
        unfold lowest_of in
        let c = is_common p.x p.y p.d in
        ap (λ (r : Point). point_order r q)
        (same_record (sym (quot_times p.x g c.divides_x)) (sym (quot_times p.y g c.divides_y)) (sym (div-mul_cancel g c.divides_d)))
        ∙ point_scaled g h _ q

-- ---- the crossing of two pieces
module _ (a b : LineSegment) (q : Point) where
  rough_alike : point_order (cramer_of a b) q ≡ point_order (crossing_of a b) q
  unfolding crossing_of
  rough_alike = lowest_alike (cramer_of a b) q

  pub alike_rough : point_order q (cramer_of a b) ≡ point_order q (crossing_of a b)
  alike_rough = point_turned (cramer_of a b) q ∙ ap turned rough_alike ∙ sym (point_turned (crossing_of a b) q)

-- ---- pairs of the array
module _ (n : ℕ) (table : List ℤ) where
  pub rough_before : (q : Pair) (p : Point) → point_order (rough_at table q) p ≡ point_order (at (chart_in n table) q) p
  unfolding rough_at
  rough_before q p = rough_alike (piece_in table q.0) (piece_in table q.1) p

  pub crossing_before_is : (a b : ℕ) → is_less (point_order (rough_at table (pair_of a)) (rough_at table (pair_of b))) ≡ crossing_before (chart_in n table) a b
  unfolding crossing_before rough_at
  crossing_before_is a b =
      ap is_less (rough_before (pair_of a) (rough_at table (pair_of b)) ∙ alike_rough _ _ (at (chart_in n table) (pair_of a)))

  pub crossing_at_is : (c : ℕ) (p : Point) → is_equal (point_order (rough_at table (pair_of c)) p) ≡ crossing_at (chart_in n table) p c
  unfolding crossing_at same
  crossing_at_is c p = ap is_equal (rough_before (pair_of c) p) ∙ neither_less (at (chart_in n table) (pair_of c)) p
