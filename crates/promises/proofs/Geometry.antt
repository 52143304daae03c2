-- The words of specs/Chart and those of the sweep's own chart say the same of an accepted list.
-- Assumes nothing.
use mathlib.Core.Path.{◌≡◌, refl, sym, ap, ◌∙◌}
use mathlib.Core.Logic.{◌⊎◌, ◌≢◌, ◌↔◌, inl, inr}
use mathlib.Core.Bool.{Bool, true}
use mathlib.Core.List.Memᴰ
use mathlib.Core.List.{List, map}
use mathlib.Core.List.{Memᴰ as In}
use Prim.Native.Nat.{ℕ, zero, suc, ◌<◌}
use native.Mathlib.Omega.{arith}
use lib.IntN.{ℤ}
use lib.ListN.{length, length-map}
use Rattle.fractions.specs.Order.{turned}
use Rattle.fractions.specs.Point.{point_order, lowest_of}
use Rattle.std.specs.declared.cmp.Ordering.{Ordering}
use Rattle.std.specs.declared.cmp.Ordering.TheVariants.{Less, Equal, Greater}
use Rattle.fractions.specs.declared.Point.{Point}
use Rattle.fractions.proofs.Promises.{orders_points, lowest_terms}
use Rattle.line_segment.specs.declared.LineSegment.{LineSegment}
use Rattle.line_segment.specs.declared.Meeting.{Meeting}
use Rattle.line_segment.specs.declared.Meeting.TheVariants.{Nothing, Crossing, Overlap}
use Rattle.line_segment.specs.Piece.{HasLength, point_of}
use Rattle.line_segment.specs.Geometry.{Common, OneLine}
use Rattle.line_segment.specs.Segment.{intersect_of, contains_of, crossing_of}
use Rattle.line_segment.specs.Demand.{says_yes, says_overlap, Meet, OnlyPoint}
use Rattle.line_segment.proofs.Lying.{same_lies}
use Rattle.line_segment.proofs.Promises.{says_yes_exactly, overlap_exactly, crossing_is_cramers}
use Rattle.charts.specs.Chart.{verdict_of}
use Rattle.charts.specs.Piece.{piece_at, is_upright, no_upright}
use Rattle.charts.specs.Verdict.{Accepted}
use Rattle.charts.proofs.Accepted.{pieces_have_length}
use Rattle.charts.proofs.Rows.{is_true, is_false, says_eq}
use Rattle.charts.proofs.Upright.{upright_none, upright_not, upright_found}
use Rattle.naive.specs.AllPairs.{pairs_of}
use Rattle.naive.proofs.Exactly.{lists_exactly as all_pairs_exactly, lists_once as all_pairs_once}
use Rattle.sweep.specs.Lists.{Pair, Pairwise}
use Rattle.sweep.specs.Chart.{Kind, nothing, crosses, overlaps, Chart, meets, kind}
use Rattle.sweep.specs.Sought.{all, later, first_by, first, meeting}
use Rattle.sweep.specs.Geometry.{Occurs}
use Rattle.sweep.specs.Demand.{Pieces}
use Rattle.sweep.specs.Ported.{is_less, kind_of, ported}
use Rattle.sweep.proofs.Lists.{keep_in, keep_out, pairwise_keep}
use Rattle.sweep.proofs.Occurring.{all_in, all_out, all_once, min_occurs, max_occurs, at_occurs, occurs_out, End}
use Rattle.sweep.proofs.Occurring.{Crossing as Crosses}
use Rattle.sweep.proofs.Tests.{clash}
use Rattle.ported_arrays.proofs.Distinct.{distinct_fit}
use Rattle.sweep_geometry.specs.Demand.{LeastCommon}
use Rattle.sweep_geometry.proofs.Accepted.{list_proper}
use Rattle.sweep_geometry.proofs.FirstCommon.{first_is_least}
use Rattle.sweep_geometry.proofs.Supply.{kind_crosses}
use Rattle.promises.specs.Chart as due
use Rattle.promises.specs.Chart.{NoneUpright, CrossAt, EndOrCrossing, a_min, a_max, a_crossing}

-- ---- tests, and what they say
yes_meets : (m : Meeting) → meets (kind_of m) ≡ says_yes m
unfolding meets
yes_meets Nothing = refl
yes_meets Crossing = refl
yes_meets (Overlap s) = refl

pub less_is : (o : Ordering) → is_less o ≡ true → o ≡ Less
less_is Less e = refl
less_is Equal e = clash e refl
less_is Greater e = clash e refl

-- ---- two least common points are one in the order of points
pub least_alike : (a b : LineSegment) (p q : Point) → LeastCommon a b p → LeastCommon a b q → point_order p q ≡ Equal
least_alike a b p q h k = go (point_order p q) refl
  where
    go : (o : Ordering) → point_order p q ≡ o → o ≡ Equal
    go Less e = absurd (k.least p h.common (orders_points.other_way p q ∙ ap turned e))
    go Equal e = refl
    go Greater e = absurd (h.least q k.common e)

-- ---- a crossing, by the test and by geometry
module _ (a b : LineSegment) (la : HasLength a) (lb : HasLength b) where
  -- "Crossing" is said exactly when the lines are not one and the pieces meet
  pub crossing_exactly : (intersect_of a b ≡ Crossing) ↔ (¬ OneLine a b × Meet a b)
  crossing_exactly = (
    λ e. ((crossing_is_cramers a b la lb e).0, (says_yes_exactly a b la lb).0 (ap says_yes e)),
    λ h. go (intersect_of a b) refl ((says_yes_exactly a b la lb).1 h.1) (λ y. h.0 ((overlap_exactly a b la lb).0 y).0),
  )
    where
      go : (m : Meeting) → intersect_of a b ≡ m → says_yes (intersect_of a b) ≡ true → ¬ (says_overlap (intersect_of a b) ≡ true) → intersect_of a b ≡ Crossing
      go Nothing e y n = clash y (ap says_yes e)
      go Crossing e y n = e
      go (Overlap s) e y n = absurd (n (ap says_overlap e))

  -- .. and then Cramer's point is the one common point
  pub crosses_at : intersect_of a b ≡ Crossing → CrossAt a b (crossing_of a b)
  crosses_at e =
      let t = crossing_is_cramers a b la lb e in
      record { two_lines = t.0; lowest = t.1.lowest; common = t.1.common; only = λ q c. one_common t.1 q c }
    where
      one_common : OnlyPoint a b (crossing_of a b) → (q : Point) → Common a b q → point_order q (crossing_of a b) ≡ Equal
      one_common t q c =
          let l : Point = lowest_of q.x q.y q.d in
          let w = lowest_terms.lowest q.x q.y q.d c.positive in
          let back : point_order l q ≡ Equal = lowest_terms.same q.x q.y q.d in
          let there : point_order q l ≡ Equal = orders_points.other_way l q ∙ ap turned back in
          let is = t.only l w (same_lies a q l c.positive w.positive there c.first).line (same_lies b q l c.positive w.positive there c.second).line in
          ap (λ (x : Point). point_order q x) (sym is) ∙ there

  pub at_crossing : (p : Point) → CrossAt a b p → (intersect_of a b ≡ Crossing) × (p ≡ crossing_of a b)
  at_crossing p c =
      let e = crossing_exactly.1 (c.two_lines, (p, c.common)) in
      (e, (crossing_is_cramers a b la lb e).1.only p c.lowest c.common.first.line c.common.second.line)

-- ---- upright pieces
pub none_upright : (list : List ℤ) (n : ℕ) → (no_upright list n ≡ true) ↔ NoneUpright list n
unfolding is_upright
none_upright list n = (
  λ e i h d. clash e (upright_found list i n h (is_true (says_eq _ _) d)),
  go n,
)
  where
    go : (m : ℕ) → NoneUpright list m → no_upright list m ≡ true
    go zero f = upright_none list
    go (suc m) f = upright_not list m (go m (λ i h. f i (omega arith))) (is_false (says_eq _ _) (f m (omega arith)))

-- ---- an accepted list, its pieces in any order of the active list
module _ (order : Point → ℕ → ℕ → Bool) (list : List ℤ) (n : ℕ) where
  abbrev pub chart : Chart
  chart =
      record {
        Point = Point;
        less = λ p q. is_less (point_order p q);
        n = n;
        min = λ i. point_of (piece_at list i).min;
        max = λ i. point_of (piece_at list i).max;
        upright = λ i. is_upright (piece_at list i);
        contains = λ i p. contains_of (piece_at list i) p;
        test = λ i j. kind_of (intersect_of (piece_at list i) (piece_at list j));
        crossing = λ i j. crossing_of (piece_at list i) (piece_at list j);
        before = order;
      }

  -- the first common point does not depend on that order
  first_ported : (k : Kind) (q : Pair) → first_by chart k q ≡ first_by (ported n (piece_at list)) k q
  unfolding first_by later
  first_ported nothing q = refl
  first_ported crosses q = refl
  first_ported overlaps q = refl

  module _ (e : verdict_of list ≡ Accepted n) where
    long : (i : ℕ) → i < n → HasLength (piece_at list i)
    long i h = pieces_have_length list n i e h

    -- the sweep's test of two pieces, and their common point
    pub meets_exactly : (q : Pair) → (Pieces chart q × (meets (kind chart q) ≡ true)) ↔ due.Meeting list n q
    meets_exactly q = (
      λ h. (h.0.0, h.0.1, (test h.0).0 (sym (yes_meets (tested q)) ∙ h.1)),
      λ h. ((h.0, h.1), yes_meets (tested q) ∙ (test (h.0, h.1)).1 h.2),
    )
      where
        tested : Pair → Meeting
        tested q = intersect_of (piece_at list q.0) (piece_at list q.1)

        test : (q.0 < q.1) × (q.1 < n) → (says_yes (tested q) ≡ true) ↔ Meet (piece_at list q.0) (piece_at list q.1)
        test v = says_yes_exactly (piece_at list q.0) (piece_at list q.1) (long q.0 (omega arith)) (long q.1 v.1)

    pub first_least : (q : Pair) → due.Meeting list n q → due.FirstOf list q (first chart q)
    unfolding first
    first_least q h =
        let m = (meets_exactly q).1 h in
        rw (first_ported (kind chart q) q) (first_is_least n (piece_at list) (list_proper list n e) q m.0 m.1)

    pub meeting_exactly : (q : Pair) → In q (meeting chart) ↔ due.Meeting list n q
    unfolding meeting
    meeting_exactly q = (
      λ m. let r = keep_out (λ q. meets (kind chart q)) (all chart) m in (meets_exactly q).0 (all_out chart r.0, r.1),
      λ h. let r = (meets_exactly q).1 h in keep_in (λ q. meets (kind chart q)) (all_in chart q r.0) r.1,
    )

    -- .. the other way round in the all-pairs list
    pub turned_exactly : (i j : ℕ) → In (j, i) (pairs_of list n) ↔ due.Meeting list n (i, j)
    turned_exactly i j =
        let t = all_pairs_exactly list n e j i in (
          λ m. let h = t.0 m in (h.0, h.1, turn h.2),
          λ h. t.1 (h.0, h.1, turn h.2),
        )
      where
        turn : {a b : LineSegment} → Meet a b → Meet b a
        turn m = (m.0, record { positive = m.1.positive; first = m.1.second; second = m.1.first })

    -- as many in either
    abbrev swapped : Pair → Pair
    swapped q = (q.1, q.0)

    pub meeting_once : Pairwise (λ (q r : Pair). q ≢ r) (meeting chart)
    unfolding meeting
    meeting_once = pairwise_keep (λ q r. q ≢ r) (λ q. meets (kind chart q)) (all chart) (all_once chart)

    pub meeting_many : length (meeting chart) ≡ length (pairs_of list n)
    meeting_many =
        let there = distinct_fit (meeting chart) (map swapped (pairs_of list n)) meeting_once (λ q m. Memᴰ.map swapped ((turned_exactly q.0 q.1).1 ((meeting_exactly q).0 m))) in
        let back = distinct_fit (pairs_of list n) (map swapped (meeting chart)) (all_pairs_once list n)
        (λ q m. Memᴰ.map swapped ((meeting_exactly (swapped q)).1 ((turned_exactly q.1 q.0).0 m))) in
        omega (arith, there, back, length-map {B = Pair} (pairs_of list n) swapped, length-map {B = Pair} (meeting chart) swapped)

    -- the points that occur
    pub occurs_exactly : (p : Point) → Occurs chart p ↔ EndOrCrossing list n p
    occurs_exactly p = (λ o. out (occurs_out chart o), λ h. into h)
      where
        out : End chart p ⊎ Crosses chart p → EndOrCrossing list n p
        out (inl (i, h, inl d)) = a_min i h d
        out (inl (i, h, inr d)) = a_max i h d
        out (inr (q, v, k, d)) = a_crossing q.0 q.1 v.0 v.1 (rw d (crosses_at _ _ (long q.0 (omega arith)) (long q.1 v.1) (kind_crosses _ k)))

        into : EndOrCrossing list n p → Occurs chart p
        into (a_min i h d) = rw d (min_occurs chart i h)
        into (a_max i h d) = rw d (max_occurs chart i h)
        into (a_crossing i j h k c) =
            let t = at_crossing _ _ (long i (omega arith)) (long j k) p c in
            rw t.1 (at_occurs chart (i, j) (h, k) (ap kind_of t.0))
