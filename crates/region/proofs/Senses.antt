-- The two senses exchanged, a region answers the same: the proof of `SensesExchanged`. The two counts of a side differ exactly
-- where one of its corners, and not the other, stands to the right of the peak at its height; going round, every such corner
-- is met twice. Assumes nothing.
use Rattle.std.specs.Prelude.{Option, None, Some}
use mathlib.Core.Path.{◌≡◌, refl, sym, ap, ap₂, ◌∙◌, subst}
use mathlib.Core.Bool.{Bool, true, false, cond, not, ◌&&◌}
use mathlib.Core.List.{List, [], ◌∷◌}
use Prim.Native.Nat.{ℕ, zero, suc, ◌+◌, ◌*◌, ◌%◌, ◌<◌}
use native.Mathlib.Omega.{arith}
use lib.Dec.{eqb, ltb}
use lib.IntN.{ℤ, pos, ◌-ℤ◌, ◌*ℤ◌}
use lib.Signed.{◌<ℤ◌}
use Rattle.integers.proofs.Order.{Tri, less, same, more, tri, <_cert, <_trans, <_asym, <→≢}
use Rattle.integers.proofs.Signs.{<_diff, ≡_diff, diff-≡, p*p, x*z}
use Rattle.integers.proofs.Ring.{*ℤ_idr}
use Rattle.integers.proofs.Identity.{by_ring, terms}
use Rattle.orientation.specs.declared.Orientation.{Orientation}
use Rattle.orientation.specs.declared.Orientation.TheVariants.{CounterClockWise, ClockWise, CoLinear}
use Rattle.orientation.specs.Turn.{det, turn_of, is_left, is_straight, same_turn}
use Rattle.orientation.proofs.Signs.{turn_above, turn_below}
use Rattle.fractions.specs.Order.{order, and_then}
use Rattle.fractions.specs.Fraction.{ratio_order}
use Rattle.fractions.specs.Point.{point_order, whole_of}
use Rattle.std.specs.declared.cmp.Ordering.{Ordering}
use Rattle.std.specs.declared.cmp.Ordering.TheVariants.{Less, Equal, Greater}
use Rattle.fractions.proofs.Orders.{order_less, order_equal, order_greater}
use Rattle.line_segment.specs.declared.LineSegment.{LineSegment}
use Rattle.line_segment.specs.Geometry.{run, rise, side, admits, LiesOn}
use Rattle.line_segment.specs.Piece.{point_of, end_order, first_included, second_included, join_by, join_of, piece_of, HasLength}
use Rattle.line_segment.specs.Segment.{opposed}
use Rattle.line_segment.proofs.Booleans.{no, clash}
use Rattle.half_line.specs.declared.Corner.{Corner}
use Rattle.half_line.specs.HalfLine.{corner_of, leans_of, passes_of, point_turn, half_line_of}
use Rattle.half_line.specs.Call.{corner_at}
use Rattle.charts.specs.Piece.{coordinate_of}
use Rattle.charts.specs.Verdict.{Accepted}
use Rattle.outline.specs.Counting.{first, count}
use Rattle.outline.specs.Outline.{number_at, next_of, side_of, verdict_of}
use Rattle.outline.proofs.Accepted.{sides_have_length, peak_as_given}
use Rattle.region.specs.declared.Region.{Region}
use Rattle.region.specs.Region.{counted, right_of, on_side, met_side, parity, region_of}
use Rattle.region.specs.Demand.{counted_other, other_sense, SensesExchanged}
use Rattle.region.proofs.EvenOdd.{height, rust}
use Rattle.region.proofs.Elsewhere.{one, next_more, next_last}
use Rattle.region.proofs.OnSides.{any, answer, held}

abbrev differ : Bool → Bool → Bool
differ true b = not b
differ false b = b

alone : (x : Bool) → x ≡ differ x false
alone true = refl
alone false = refl

differ_turned : (x y : Bool) → differ x y ≡ differ y x
differ_turned true true = refl
differ_turned true false = refl
differ_turned false true = refl
differ_turned false false = refl

-- ---- going round
module _ (c o : ℕ → Bool) (e : ℕ → Bool) where
  turn : (x y a b : Bool) → differ x y ≡ differ a b → (s k : ℕ) → s + one a ≡ 2 * k → (m : ℕ) × (s + (one x + one y) + one b ≡ 2 * m)
  turn true true true true h s k q = (k + 1, omega (arith, q))
  turn true true false false h s k q = (k + 1, omega (arith, q))
  turn false false true true h s k q = (k, omega (arith, q))
  turn false false false false h s k q = (k, omega (arith, q))
  turn true false true false h s k q = (k, omega (arith, q))
  turn false true true false h s k q = (k, omega (arith, q))
  turn true false false true h s k q = (k + 1, omega (arith, q))
  turn false true false true h s k q = (k + 1, omega (arith, q))
  turn true true true false h s k q = clash h
  turn true true false true h s k q = clash h
  turn false false true false h s k q = clash h
  turn false false false true h s k q = clash h
  turn true false true true h s k q = clash (sym h)
  turn true false false false h s k q = clash (sym h)
  turn false true true true h s k q = clash (sym h)
  turn false true false false h s k q = clash (sym h)

  along : (n : ℕ) → ((i : ℕ) → i < n → differ (c i) (o i) ≡ differ (e i) (e (suc i))) → (k : ℕ) × (count c n + count o n + one (e 0) + one (e n) ≡ 2 * k)
  unfolding count
  along zero h = (one (e 0), omega arith)
  along (suc n) h =
      let r = along n (λ i l. h i (omega arith)) in
      let t = turn (c n) (o n) (e n) (e (suc n)) (h n (omega arith)) (count c n + count o n + one (e 0)) r.0 r.1 in
      (t.0, omega (arith, t.1))

  round : (n : ℕ) → ((i : ℕ) → i < suc n → differ (c i) (o i) ≡ differ (e i) (e (next_of (suc n) i))) → (k : ℕ) × (count c (suc n) + count o (suc n) + 2 * one (e 0) ≡ 2 * k)
  unfolding count
  round n h =
      let r = along n (λ i l. h i (omega arith) ∙ ap (λ (j : ℕ). differ (e i) (e j)) (next_more n i l)) in
      let t = turn (c n) (o n) (e n) (e 0) (h n (omega arith) ∙ ap (λ (j : ℕ). differ (e n) (e j)) (next_last n)) (count c n + count o n + one (e 0)) r.0 r.1 in
      (t.0, omega (arith, t.1))

-- two counts that make an even number together are of one parity
evenly : (a b x k : ℕ) → a + b + 2 * x ≡ 2 * k → b % 2 ≡ a % 2
evenly a b x k e = omega (arith, e)

-- ---- one side
whole_order : (x y u v : ℤ) → point_order (whole_of x y) (whole_of u v) ≡ and_then (order x u) (order y v)
unfolding point_order ratio_order
whole_order x y u v = ap₂ and_then (ap₂ order (*ℤ_idr x) (*ℤ_idr u)) (ap₂ order (*ℤ_idr y) (*ℤ_idr v))

level_turn : is_left (turn_of (pos 0)) ≡ false
unfolding turn_of
level_turn = refl

straight : (z : ℤ) → turn_of z ≡ CoLinear → z ≡ pos 0
unfolding turn_of
straight z e = go (tri z (pos 0))
  where
    go : Tri z (pos 0) → z ≡ pos 0
    go (less h) = clash (ap is_straight (sym (turn_below h) ∙ e))
    go (same q) = q
    go (more h) = clash (ap is_straight (sym (turn_above h) ∙ e))

-- the sign of a product, asked of the sign of its first factor
pos_pos : (a b : ℤ) → pos 0 <ℤ a → pos 0 <ℤ b → pos 0 <ℤ (a *ℤ b)
pos_pos a b h k = p*p h k

pos_neg : (a b : ℤ) → pos 0 <ℤ a → b <ℤ pos 0 → (a *ℤ b) <ℤ pos 0
pos_neg a b h k = <_cert (a ∷ b ∷ []) (p*p h (<_diff k)) (search terms depth 60 fits 20000) tt

neg_neg : (a b : ℤ) → a <ℤ pos 0 → b <ℤ pos 0 → pos 0 <ℤ (a *ℤ b)
neg_neg a b h k = <_cert (a ∷ b ∷ []) (p*p (<_diff h) (<_diff k)) (search terms depth 60 fits 20000) tt

same_sign : (a b : ℤ) → is_straight (turn_of a) ≡ false → same_turn (turn_of a) (turn_of (a *ℤ b)) ≡ is_left (turn_of b)
unfolding turn_of
same_sign a b h = go (tri a (pos 0)) (tri b (pos 0))
  where
    zero_times : b ≡ pos 0 → a *ℤ b ≡ pos 0
    zero_times e = x*z a e

    go : Tri a (pos 0) → Tri b (pos 0) → same_turn (turn_of a) (turn_of (a *ℤ b)) ≡ is_left (turn_of b)
    go (same e) t = clash (sym h ∙ ap (λ (z : ℤ). is_straight (turn_of z)) e)
    go (more k) (more l) = rw (turn_above k, turn_above (pos_pos a b k l), turn_above l)
    go (more k) (same e) = rw (turn_above k, ap turn_of (zero_times e), ap turn_of e)
    go (more k) (less l) = rw (turn_above k, turn_below (pos_neg a b k l), turn_below l)
    go (less k) (more l) = rw (turn_below k, turn_below (ap_comm l), turn_above l)
      where
        ap_comm : pos 0 <ℤ b → (a *ℤ b) <ℤ pos 0
        ap_comm l = <_cert (a ∷ b ∷ []) (p*p l (<_diff k)) (search terms depth 60 fits 20000) tt
    go (less k) (same e) = rw (turn_below k, ap turn_of (zero_times e), ap turn_of e)
    go (less k) (less l) = rw (turn_below k, turn_above (neg_neg a b k l), turn_below l)

module _ (p : Corner) where
  abbrev high : Corner → Orientation
  high c = turn_of (c.y -ℤ p.y)

  abbrev ahead : Corner → Bool
  ahead c = is_left (turn_of (c.x -ℤ p.x))

  -- the corner stands to the right of the peak, at its height
  abbrev right : Corner → Bool
  right c = is_straight (high c) && ahead c

  -- one end at the peak's height, the other not: met to the right exactly where that end is to the right
  lean₀ : (x y u v z : ℤ) → (u -ℤ z) *ℤ (y -ℤ y) -ℤ (v -ℤ y) *ℤ (x -ℤ z) ≡ (v -ℤ y) *ℤ (z -ℤ x)
  lean₀ x y u v z = by_ring (x ∷ y ∷ u ∷ v ∷ z ∷ []) (search terms depth 60 fits 20000) tt

  lean : (c d : Corner) → high c ≡ CoLinear → is_straight (high d) ≡ false → same_turn (high d) (point_turn c d p) ≡ ahead c
  unfolding point_turn det
  lean c d e h =
      let level : c.y ≡ p.y = sym (diff-≡ p.y c.y (straight _ e)) in
      rw level
      (ap (λ (z : ℤ). same_turn (high d) (turn_of z)) (lean₀ p.x p.y d.x d.y c.x)
      ∙ same_sign (d.y -ℤ p.y) (c.x -ℤ p.x) h)

  -- both ends at the peak's height: both to the right, or neither, where the peak is not on the side
  module _ (s : LineSegment) (long : HasLength s) (from : s.min.included ≡ true) (upto : s.max.included ≡ true) (off : ¬ LiesOn s (whole_of p.x p.y)) where
    abbrev a : Corner
    a = corner_of s.min

    abbrev b : Corner
    b = corner_of s.max

    module _ (ea : high a ≡ CoLinear) (eb : high b ≡ CoLinear) where
      ya : s.min.y ≡ p.y
      ya = sym (diff-≡ p.y s.min.y (straight _ ea))

      yb : s.max.y ≡ p.y
      yb = sym (diff-≡ p.y s.max.y (straight _ eb))

      flat : (u v x y : ℤ) → (v -ℤ u) *ℤ (y -ℤ y *ℤ pos 1) -ℤ (y -ℤ y) *ℤ (x -ℤ u *ℤ pos 1) ≡ pos 0
      flat u v x y = by_ring (u ∷ v ∷ x ∷ y ∷ []) (search terms depth 60 fits 20000) tt

      line : side s (whole_of p.x p.y) ≡ pos 0
      unfolding side run rise
      line = rw (ya, yb) (flat s.min.x s.max.x p.x p.y)

      -- the peak is between them
      begun : Tri s.min.x p.x → ¬ (p.x <ℤ s.min.x) → admits (point_order (point_of s.min) (whole_of p.x p.y)) s.min.included ≡ true
      unfolding point_of
      begun (less h) k = rw (whole_order s.min.x s.min.y p.x p.y, order_less h)
      begun (same e) k = rw (whole_order s.min.x s.min.y p.x p.y, order_equal e, order_equal ya) from
      begun (more h) k = absurd (k h)

      ended : p.x <ℤ s.max.x → admits (point_order (whole_of p.x p.y) (point_of s.max)) s.max.included ≡ true
      unfolding point_of
      ended h = rw (whole_order p.x p.y s.max.x s.max.y, order_less h)

      not_back : ¬ (s.max.x <ℤ s.min.x)
      unfolding end_order point_of
      not_back h = order_clash (sym (rw (whole_order s.min.x s.min.y s.max.x s.max.y, order_greater h) refl) ∙ long)
        where
          order_clash : Greater ≡ Less → ⊥
          order_clash e = no (cc)

      level : ahead a ≡ ahead b
      level = go (tri s.min.x p.x) (tri s.max.x p.x)
        where
          far : {z : ℤ} → p.x <ℤ z → is_left (turn_of (z -ℤ p.x)) ≡ true
          far h = ap is_left (turn_above (<_diff h))

          near : {z : ℤ} → z <ℤ p.x → is_left (turn_of (z -ℤ p.x)) ≡ false
          near {z} h = ap is_left (turn_below (<_cert (z ∷ p.x ∷ []) (<_diff h) (search terms depth 60 fits 20000) tt))

          here : {z : ℤ} → z ≡ p.x → is_left (turn_of (z -ℤ p.x)) ≡ false
          here {z} e = ap (λ (u : ℤ). is_left (turn_of u)) (≡_diff (sym e)) ∙ level_turn

          go : Tri s.min.x p.x → Tri s.max.x p.x → ahead a ≡ ahead b
          go (more h) (more k) = far h ∙ sym (far k)
          go (more h) (same e) = absurd (not_back (subst (λ (z : ℤ). z <ℤ s.min.x) (sym e) h))
          go (more h) (less k) = absurd (not_back (<_trans k h))
          go (less h) (more k) = absurd (off (record { line = line; from = begun (less h) (<_asym h); upto = ended k }))
          go (same e) (more k) = absurd (off (record { line = line; from = begun (same e) (λ q. <→≢ q (sym e)); upto = ended k }))
          go (less h) (less k) = near h ∙ sym (near k)
          go (less h) (same e) = near h ∙ sym (here e)
          go (same d) (less k) = here d ∙ sym (near k)
          go (same d) (same e) = here d ∙ sym (here e)

    -- the two counts of a side
    abbrev sided : Option Orientation → Bool
    sided m = differ (counted m) (counted_other m)

    leaning : (o : Orientation) (t : Orientation) → is_straight o ≡ false → sided (leans_of o t) ≡ same_turn o t
    leaning CounterClockWise CounterClockWise e = refl
    leaning CounterClockWise ClockWise e = refl
    leaning CounterClockWise CoLinear e = refl
    leaning ClockWise CounterClockWise e = refl
    leaning ClockWise ClockWise e = refl
    leaning ClockWise CoLinear e = refl
    leaning CoLinear t e = clash (sym e)

    passing : (o q t : Orientation) → sided (passes_of o q t) ≡ false
    passing o q t = go (opposed o q && opposed o t)
      where
        go : (b : Bool) → sided (cond b (Some CoLinear) None) ≡ false
        go true = refl
        go false = refl

    by_ends : (o q : Orientation) → high a ≡ o → high b ≡ q
        → sided (rust o q (point_turn a b p) (point_turn b a p)) ≡ differ (is_straight o && ahead a) (is_straight q && ahead b)
    by_ends CoLinear CoLinear d e = agreed (ahead a) (ahead b) (level d e)
      where
        agreed : (x y : Bool) → x ≡ y → false ≡ differ x y
        agreed true true h = refl
        agreed false false h = refl
        agreed true false h = clash (sym h)
        agreed false true h = clash h
    by_ends CoLinear CounterClockWise d e = leaning CounterClockWise (point_turn a b p) refl ∙ (rw e at (lean a b d (rw e refl))) ∙ alone (ahead a)
    by_ends CoLinear ClockWise d e = leaning ClockWise (point_turn a b p) refl ∙ (rw e at (lean a b d (rw e refl))) ∙ alone (ahead a)
    by_ends CounterClockWise CoLinear d e = leaning CounterClockWise (point_turn b a p) refl ∙ (rw d at (lean b a e (rw d refl)))
    by_ends ClockWise CoLinear d e = leaning ClockWise (point_turn b a p) refl ∙ (rw d at (lean b a e (rw d refl)))
    by_ends CounterClockWise CounterClockWise d e = passing CounterClockWise CounterClockWise (point_turn a b p)
    by_ends CounterClockWise ClockWise d e = passing CounterClockWise ClockWise (point_turn a b p)
    by_ends ClockWise CounterClockWise d e = passing ClockWise CounterClockWise (point_turn a b p)
    by_ends ClockWise ClockWise d e = passing ClockWise ClockWise (point_turn a b p)

    by_side : sided (half_line_of p (right_of p) s) ≡ differ (right a) (right b)
    unfolding half_line_of
    by_side = rw (height p a, height p b) (by_ends (high a) (high b) refl refl)

-- the ends of a side are its two corners, both included
module _ (p : Corner) (x1 y1 x2 y2 : ℤ) where
  abbrev whole : LineSegment
  whole = piece_of 3 x1 y1 x2 y2

  corners : differ (right p (corner_of whole.min)) (right p (corner_of whole.max)) ≡ differ (right p (record { x = x1; y = y1 })) (right p (record { x = x2; y = y2 }))
  unfolding piece_of join_of join_by
  corners = go (end_order _ _)
    where
      go : (o : Ordering) → differ (right p (corner_of (join_by o (record { x = x1; y = y1; included = first_included 3 }) (record { x = x2; y = y2; included = second_included 3 })).min)) (right p (corner_of (join_by o (record { x = x1; y = y1; included = first_included 3 }) (record { x = x2; y = y2; included = second_included 3 })).max)) ≡ differ (right p (record { x = x1; y = y1 })) (right p (record { x = x2; y = y2 }))
      go Less = refl
      go Equal = differ_turned (right p (record { x = x2; y = y2 })) (right p (record { x = x1; y = y1 }))
      go Greater = differ_turned (right p (record { x = x2; y = y2 })) (right p (record { x = x1; y = y1 }))

  both_in : (whole.min.included ≡ true) × (whole.max.included ≡ true)
  unfolding piece_of join_of join_by first_included second_included
  both_in = go (end_order _ _)
    where
      go : (o : Ordering) → ((join_by o (record { x = x1; y = y1; included = true }) (record { x = x2; y = y2; included = true })).min.included ≡ true) × ((join_by o (record { x = x1; y = y1; included = true }) (record { x = x2; y = y2; included = true })).max.included ≡ true)
      go Less = (refl, refl)
      go Equal = (refl, refl)
      go Greater = (refl, refl)

-- ---- an accepted outline
module _ (outline : List ℤ) (x y : ℤ) (n : ℕ) (e : verdict_of outline x y ≡ Accepted (suc n)) (off : (i : ℕ) → i < suc n → ¬ LiesOn (side_of outline (suc n) i) (whole_of x y)) where
  abbrev peak : Corner
  peak = corner_at x y

  -- corner i is to the right of the peak at its height
  abbrev corner : ℕ → Bool
  corner i = right peak (record { x = coordinate_of (number_at outline i 0); y = coordinate_of (number_at outline i 1) })

  off_peak' : (i : ℕ) → i < suc n → ¬ LiesOn (side_of outline (suc n) i) (whole_of peak.x peak.y)
  off_peak' i l = let k = peak_as_given outline x y (suc n) e in rw (k.0, k.1) (off i l)

  side_differs : (i : ℕ) → i < suc n
      → differ (counted (half_line_of peak (right_of peak) (side_of outline (suc n) i))) (counted_other (half_line_of peak (right_of peak) (side_of outline (suc n) i)))
      ≡ differ (corner i) (corner (next_of (suc n) i))
  unfolding side_of
  side_differs i l =
      let j = next_of (suc n) i in
      let both = both_in peak (coordinate_of (number_at outline i 0)) (coordinate_of (number_at outline i 1)) (coordinate_of (number_at outline j 0)) (coordinate_of (number_at outline j 1)) in
      by_side peak (side_of outline (suc n) i) (sides_have_length outline x y (suc n) i e l) both.0 both.1 (off_peak' i l)
      ∙ corners peak (coordinate_of (number_at outline i 0)) (coordinate_of (number_at outline i 1)) (coordinate_of (number_at outline j 0)) (coordinate_of (number_at outline j 1))

  abbrev other : ℕ → Bool
  other i = counted_other (half_line_of peak (right_of peak) (side_of outline (suc n) i))

  same_parity : parity (count other (suc n)) ≡ parity (count (met_side outline (suc n) peak) (suc n))
  unfolding met_side
  same_parity =
      let r = round (met_side outline (suc n) peak) other corner n side_differs in
      ap (λ (k : ℕ). cond (eqb k 1) Region.Inside Region.Outside) (evenly (count (met_side outline (suc n) peak) (suc n)) (count other (suc n)) (one (corner 0)) r.0 r.1)

nothing_counted : (outline : List ℤ) (p : Corner) → parity (count (λ i. counted_other (half_line_of p (right_of p) (side_of outline 0 i))) 0) ≡ parity (count (met_side outline 0 p) 0)
unfolding count
nothing_counted outline p = refl

module _ (outline : List ℤ) (x y : ℤ) (n : ℕ) (e : verdict_of outline x y ≡ Accepted n) where
  on_or_not : (b : Bool) → ltb (first (on_side outline n (corner_at x y)) n) n ≡ b → other_sense outline n (corner_at x y) ≡ region_of outline n (corner_at x y)
  unfolding other_sense region_of
  on_or_not true h = rw h
  on_or_not false h = rw h (sizes n e h)
    where
      sizes : (m : ℕ) → verdict_of outline x y ≡ Accepted m → ltb (first (on_side outline m (corner_at x y)) m) m ≡ false
          → parity (count (λ i. counted_other (half_line_of (corner_at x y) (right_of (corner_at x y)) (side_of outline m i))) m) ≡ parity (count (met_side outline m (corner_at x y)) m)
      sizes zero d q = nothing_counted outline (corner_at x y)
      sizes (suc m) d q =
          same_parity outline x y m d
          (λ i l on. clash (sym q ∙ any (on_side outline (suc m) (corner_at x y)) (suc m) i l ((held outline x y (suc m) d i l).1 on)))

pub senses_exchanged : SensesExchanged
senses_exchanged outline x y n e = ap Some (on_or_not outline x y n e _ refl) ∙ sym (answer outline x y n e)
