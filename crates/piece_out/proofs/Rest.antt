-- The list in plain order, and that of all pairs, of a chart without a piece.
-- Assumes nothing.
use mathlib.Core.Path.{◌≡◌, refl, sym, ap, ap₂, ◌∙◌, subst}
use mathlib.Core.Logic.{◌⊎◌, inl, inr, ⊎_elim}
use mathlib.Core.Bool.{Bool, true, false}
use mathlib.Core.List.{List}
use mathlib.Core.List.{Memᴰ as In}
use Prim.Native.Nat.{ℕ, suc, ◌-◌, ◌<◌, ◌≤◌}
use native.Mathlib.Omega.{arith}
use lib.IntN.{ℤ, pos}
use Rattle.integers.proofs.Naturals.{pos-<}
use Rattle.fractions.specs.Order.{order, and_then}
use Rattle.fractions.specs.Point.{point_order}
use Rattle.fractions.proofs.Orders.{order_less, order_equal, order_greater}
use Rattle.line_segment.specs.declared.LineSegment.{LineSegment}
use Rattle.line_segment.specs.Demand.{Meet}
use Rattle.charts.specs.Chart.{verdict_of}
use Rattle.charts.specs.Piece.{piece_at}
use Rattle.charts.specs.Verdict.{Accepted}
use Rattle.naive.specs.AllPairs.{pairs_of}
use Rattle.naive.specs.Demand.{Before}
use Rattle.naive.proofs.Exactly as all
use Rattle.sweep.specs.Lists.{Pair, Pairwise}
use Rattle.sweep.specs.Ported.{is_less}
use Rattle.sweep.proofs.Lists.{pairwise_map}
use Rattle.sweep.proofs.Sorting.{sorted_same}
use Rattle.plain_order.specs.Order.{first_of, number_order, before}
use Rattle.plain_order.specs.Plain.{in_order_lem}
use Rattle.plain_order.specs.Demand.{Ordered}
use Rattle.plain_order.proofs.Promises.{lists_in_order, one_order}
use Rattle.plain_order.proofs.ByPoints.{Stands, first, level, last, stands, numbers_less, less_numbers}
use Rattle.piece_out.specs.Cut.{cut_out, raised, raise_both, without}
use Rattle.piece_out.proofs.Numbers.{raised_is, raised_below, raised_less}
use Rattle.piece_out.proofs.Lists.{long_enough, piece_is, cut_accepted}
use Rattle.piece_out.proofs.Pairs.{without_in, without_out, without_pairwise}

-- ---- numbers raised stand as they stood
order_raised : (i j k : ℕ) → order (pos j) (pos k) ≡ order (pos (raised i j)) (pos (raised i k))
order_raised i j k = go (stands j k)
  where
    go : Stands j k → order (pos j) (pos k) ≡ order (pos (raised i j)) (pos (raised i k))
    go (first h) = order_less (pos-< h) ∙ sym (order_less (pos-< (raised_less i j k h)))
    go (level e) = order_equal {a = pos j} {b = pos k} (ap pos e) ∙ sym (order_equal {a = pos (raised i j)} {b = pos (raised i k)} (ap (λ (m : ℕ). pos (raised i m)) e))
    go (last h) = order_greater (pos-< h) ∙ sym (order_greater (pos-< (raised_less i k j h)))

numbers_raised : (i : ℕ) (q s : Pair) → number_order q s ≡ number_order (raise_both i q) (raise_both i s)
numbers_raised i q s = ap₂ and_then (order_raised i q.0 s.0) (order_raised i q.1 s.1)

lower_less : (i j k : ℕ) → raised i j < raised i k → j < k
lower_less i j k h = go (stands j k)
  where
    go : Stands j k → j < k
    go (first l) = l
    go (level e) = absurd (omega (arith, h, ap (raised i) e))
    go (last l) = absurd (omega (arith, h, raised_less i k j l))

lower_below : (i j n : ℕ) → i < n → raised i j < n → j < n - 1
lower_below i j n h k =
    ⊎_elim (λ (t : (j < i) × (raised i j ≡ j)). omega (arith, t.0)) (λ (t : (i ≤ j) × (raised i j ≡ suc j)). omega (arith, k, t.1)) (raised_is i j)

-- ---- the order of numbers is strict, and is handed on
numbers_irr : (q : Pair) → is_less (number_order q q) ≡ false
numbers_irr q = rw (order_equal {a = pos q.0} {b = pos q.0} refl, order_equal {a = pos q.1} {b = pos q.1} refl)

numbers_trans : (q s t : Pair) → is_less (number_order q s) ≡ true → is_less (number_order s t) ≡ true → is_less (number_order q t) ≡ true
numbers_trans q s t e f = numbers_less q t (go (less_numbers q s e) (less_numbers s t f))
  where
    go : Before q s → Before s t → Before q t
    go (inl h) (inl k) = inl (omega arith)
    go (inl h) (inr k) = inl (omega (arith, k.0))
    go (inr h) (inl k) = inl (omega (arith, h.0))
    go (inr h) (inr k) = inr (h.0 ∙ k.0, omega (arith, h.1, k.1))

-- ---- a chart without piece i
module _ (list : List ℤ) (n i : ℕ) (e : verdict_of list ≡ Accepted n) (h : i < n) where
  abbrev C : List ℤ
  C = cut_out i list

  same : (j : ℕ) → piece_at C j ≡ piece_at list (raised i j)
  same j = piece_is list i (long_enough list n i e h) j

  meets_up : (a b : ℕ) → Meet (piece_at C a) (piece_at C b) → Meet (piece_at list (raised i a)) (piece_at list (raised i b))
  meets_up a b m = subst (λ (s : LineSegment). Meet s (piece_at list (raised i b))) (same a) (subst (λ (s : LineSegment). Meet (piece_at C a) s) (same b) m)

  meets_down : (a b : ℕ) → Meet (piece_at list (raised i a)) (piece_at list (raised i b)) → Meet (piece_at C a) (piece_at C b)
  meets_down a b m =
      subst (λ (s : LineSegment). Meet s (piece_at C b)) (sym (same a)) (subst (λ (s : LineSegment). Meet (piece_at list (raised i a)) s) (sym (same b)) m)

  before_raised : (q s : Pair) → before C q s ≡ before list (raise_both i q) (raise_both i s)
  unfolding before
  before_raised q s =
      λ j. is_less (and_then (point_order (first_of (same q.0 j) (same q.1 j)) (first_of (same s.0 j) (same s.1 j))) (numbers_raised i q s j))

  ordered : Ordered C (n - 1) (without i (in_order_lem list n))
  ordered =
      let o = (lists_in_order list n e).1 in
      record {
        same_pairs = λ q. (
          λ m.
              let t = (o.same_pairs (raise_both i q)).0 (without_out i (in_order_lem list n) q m) in
              (lower_less i q.0 q.1 t.0, lower_below i q.1 n h t.1, meets_down q.0 q.1 t.2),
          λ t.
              without_in i (in_order_lem list n) q
              ((o.same_pairs (raise_both i q)).1 (raised_less i q.0 q.1 t.0, raised_below i q.1 n h t.1, meets_up q.0 q.1 t.2)),
        );
        in_order = without_pairwise i (λ q s. before list q s ≡ true) (λ q s. before C q s ≡ true) (λ q s t. before_raised q s ∙ t) (in_order_lem list n) o.in_order;
      }

  -- the list in plain order
  pub order_without : in_order_lem C (n - 1) ≡ without i (in_order_lem list n)
  order_without = sym (one_order C (n - 1) (cut_accepted list n i e h) (without i (in_order_lem list n)) ordered)

  -- ---- all pairs
  all_pairs_in_order : (l : List Pair) → Pairwise Before l → Pairwise (λ q s. is_less (number_order q s) ≡ true) l
  all_pairs_in_order l u = pairwise_map Before (λ q s. is_less (number_order q s) ≡ true) l (λ q s m k b. numbers_less q s b) u

  pub all_pairs_without : pairs_of C (n - 1) ≡ without i (pairs_of list n)
  all_pairs_without =
      sorted_same (λ q s. is_less (number_order q s)) (λ q. Unit {0}) (λ q o. numbers_irr q) (λ q s t a b c. numbers_trans q s t)
      (pairs_of C (n - 1)) (without i (pairs_of list n)) (λ q m. tt)
      (all_pairs_in_order (pairs_of C (n - 1)) (all.lists_in_order C (n - 1)))
      (without_pairwise i (λ q s. is_less (number_order q s) ≡ true) (λ q s. is_less (number_order q s) ≡ true)
      (λ q s t. ap is_less (numbers_raised i q s) ∙ t) (pairs_of list n) (all_pairs_in_order (pairs_of list n) (all.lists_in_order list n)))
      (λ q m.
      let t = (all.lists_exactly C (n - 1) (cut_accepted list n i e h) q.0 q.1).0 m in
      without_in i (pairs_of list n) q
      ((all.lists_exactly list n e (raised i q.0) (raised i q.1)).1 (raised_less i q.1 q.0 t.0, raised_below i q.0 n h t.1, meets_up q.0 q.1 t.2)))
      (λ q m.
      let t = (all.lists_exactly list n e (raised i q.0) (raised i q.1)).0 (without_out i (pairs_of list n) q m) in
      (all.lists_exactly C (n - 1) (cut_accepted list n i e h) q.0 q.1).1
      (lower_less i q.1 q.0 t.0, lower_below i q.0 n h t.1, meets_down q.0 q.1 t.2))
