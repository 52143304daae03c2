-- The facts of geometry, supplied from integers, for any order of the active list that is strict and total and says where
-- pieces lie (`Ranks`).
use mathlib.Core.Path.{◌≡◌, refl, sym, ap, ◌∙◌}
use mathlib.Core.Logic.{◌⊎◌, ◌≢◌, inl, inr, ⊎_elim}
use mathlib.Core.Bool.{Bool, true, false, cond}
use Prim.Native.Nat.{ℕ, ◌<◌}
use native.Mathlib.Omega.{arith}
use lib.IntN.{pos}
use Rattle.fractions.specs.Point.{Lowest, Bounded, point_order}
use Rattle.std.specs.declared.cmp.Ordering.{Ordering}
use Rattle.std.specs.declared.cmp.Ordering.TheVariants.{Less, Equal, Greater}
use Rattle.fractions.specs.declared.Point.{Point}
use Rattle.fractions.proofs.Points.{point_itself, point_trans, at_most_less, at_most_trans}
use Rattle.fractions.proofs.Promises.{orders_points, lowest_terms}
use Rattle.line_segment.specs.declared.EndPoint.{EndPoint}
use Rattle.line_segment.specs.declared.LineSegment.{LineSegment}
use Rattle.line_segment.specs.declared.Meeting.{Meeting}
use Rattle.line_segment.specs.declared.Meeting.TheVariants.{Nothing, Crossing, Overlap}
use Rattle.line_segment.specs.Piece.{closed, point_of, HasLength}
use Rattle.line_segment.specs.Geometry.{LiesOn, side, Common, OneLine}
use Rattle.line_segment.specs.Segment.{intersect_of, contains_of, crossing_of}
use Rattle.line_segment.specs.Demand.{says_overlap, OnlyPoint}
use Rattle.line_segment.proofs.Promises.{says_yes_exactly, overlap_exactly, same_whichever_asks, crossing_is_cramers, overlap_ends, contains_exactly}
use Rattle.line_segment.proofs.Lying.{whole, forward, closed_of, closed_line, closed_from, closed_upto, lies_closed, lies_inside}
use Rattle.line_segment.proofs.Sides.{min_on, max_on}
use Rattle.line_segment.proofs.CramersPoint.{crossing_stays_bounded}
use Rattle.charts.specs.Piece.{is_upright}
use Rattle.sweep.specs.Chart.{crosses, overlaps, Chart}
use Rattle.sweep.specs.Ported.{is_less, kind_of}
use Rattle.sweep.specs.Sought.{later}
use Rattle.sweep.specs.Geometry.{Occurs, Under, CrossBetween, PointsOrdered, Geometry}
use Rattle.sweep.proofs.Tests.{ask}
use Rattle.sweep.proofs.Occurring.{End, occurs_out}
use Rattle.sweep.proofs.Occurring.{Crossing as CrossingAt}
use Rattle.sweep_geometry.specs.Demand.{AllProper}
use Rattle.sweep_geometry.proofs.Comparisons.{never}
use Rattle.sweep_geometry.proofs.Ranking.{less_is}
use Rattle.sweep_geometry.proofs.Points.{at_most, not_less, up_to}
use Rattle.sweep_geometry.proofs.Turning.{crossing_of_lem, CrossIn}
use Rattle.sweep_geometry.proofs.Preceding.{Precedes}
use Rattle.sweep_geometry.proofs.Squeeze.{squeeze}
use Rattle.sweep_geometry.proofs.Aligned.{aligned_dec, aligned_trans}

-- ---- what a kind says of the test
pub kind_crosses : (m : Meeting) → kind_of m ≡ crosses → m ≡ Crossing
kind_crosses Nothing e = absurd (let z : ◌≡◌ {A = ℕ} 0 1 = cc in omega arith)
kind_crosses Crossing e = refl
kind_crosses (Overlap s) e = absurd (let z : ◌≡◌ {A = ℕ} 0 1 = cc in omega arith)

pub kind_overlaps : (m : Meeting) → kind_of m ≡ overlaps → (s : LineSegment) × (m ≡ Overlap s)
kind_overlaps Nothing e = absurd (let z : ◌≡◌ {A = ℕ} 0 1 = cc in omega arith)
kind_overlaps Crossing e = absurd (let z : ◌≡◌ {A = ℕ} 0 1 = cc in omega arith)
kind_overlaps (Overlap s) e = (s, refl)

-- ---- the piece with its ends added, and those ends
abbrev pub On : LineSegment → Point → Type 0
On s p = LiesOn (closed s) p

module _ (s : LineSegment) (h : HasLength s) where
  pub on_min : On s (point_of s.min)
  on_min = closed_of s (point_of s.min) (min_on s) (λ g. never (point_itself (point_of s.min)) g (omega arith)) (λ g. never (forward s h) g (omega arith))

  pub on_max : On s (point_of s.max)
  on_max = closed_of s (point_of s.max) (max_on s) (λ g. never (forward s h) g (omega arith)) (λ g. never (point_itself (point_of s.max)) g (omega arith))

-- an overlap begins at the later of the two mins, which lies on both
module _ (a b : LineSegment) (la : HasLength a) (lb : HasLength b) where
  abbrev pub later_min : Point
  later_min = cond (is_less (point_order (point_of a.min) (point_of b.min))) (point_of b.min) (point_of a.min)

  pub overlap_on : kind_of (intersect_of a b) ≡ overlaps → On a later_min × On b later_min
  overlap_on k =
      let o = kind_overlaps (intersect_of a b) k in
      let e : intersect_of a b ≡ Overlap o.0 = o.1 in
      let e' : intersect_of b a ≡ Overlap o.0 = sym (same_whichever_asks a b la lb).0 ∙ e in
      let l : OneLine a b = ((overlap_exactly a b la lb).0 (ap says_overlap e)).0 in
      let l' : OneLine b a = ((overlap_exactly b a lb la).0 (ap says_overlap e')).0 in
      let f = (overlap_ends a b o.0 la lb e).first in
      go l l' (point_of o.0.min) (whole o.0.min) f.first f.second (ask (is_less (point_order (point_of a.min) (point_of b.min))))
    where
      go : OneLine a b → OneLine b a → (f : Point) → 0 < f.d → On a f → On b f
          → (is_less (point_order (point_of a.min) (point_of b.min)) ≡ true) ⊎ (is_less (point_order (point_of a.min) (point_of b.min)) ≡ false)
          → On a later_min × On b later_min
      go l l' f df oa ob (inl h) =
          rw h (
            closed_of a (point_of b.min) l.min (λ g. never (less_is _ h) g (omega arith))
                (at_most_trans (point_of b.min) f (point_of a.max) (whole b.min) df (whole a.max) (closed_from b f ob) (closed_upto a f oa)),
            on_min b lb,
          )
      go l l' f df oa ob (inr h) =
          rw h (
            on_min a la,
            closed_of b (point_of a.min) l'.min (at_most (point_of b.min) (point_of a.min) h)
                (at_most_trans (point_of a.min) f (point_of b.max) (whole a.min) df (whole b.max) (closed_from a f oa) (closed_upto b f ob)),
          )

-- a strict total order of pieces at a point, that says where they lie
pub record Ranks (n : ℕ) (piece : ℕ → LineSegment) (before : Point → ℕ → ℕ → Bool) : Type 0 where
  pub irr : (p : Point) (i : ℕ) → before p i i ≡ false
  pub trans : (p : Point) → 0 < p.d → (i j k : ℕ) → i < n → j < n → k < n → before p i j ≡ true → before p j k ≡ true → before p i k ≡ true
  pub total : (p : Point) → 0 < p.d → (i j : ℕ) → i < n → j < n → i ≢ j → before p i j ≡ false → before p j i ≡ true
  pub precedes : (p : Point) → 0 < p.d → (i j : ℕ) → i < n → j < n → before p i j ≡ true → Precedes p (piece i) (piece j)

module _ (n : ℕ) (piece : ℕ → LineSegment) (ok : AllProper n piece) (before : Point → ℕ → ℕ → Bool) where
  abbrev pub C : Chart
  C =
      record {
        Point = Point;
        less = λ p q. is_less (point_order p q);
        n = n;
        min = λ i. point_of (piece i).min;
        max = λ i. point_of (piece i).max;
        upright = λ i. is_upright (piece i);
        contains = λ i p. contains_of (piece i) p;
        test = λ i j. kind_of (intersect_of (piece i) (piece j));
        crossing = λ i j. crossing_of (piece i) (piece j);
        before = before;
      }

  pub len : (i : ℕ) → i < n → HasLength (piece i)
  len i h = (ok i h).length

  -- ---- the points that occur are in lowest terms and within the bounds
  end_lowest : (e : EndPoint) → Lowest (point_of e)
  unfolding point_of
  end_lowest e = lowest_terms.whole e.x e.y

  min_bounded : (i : ℕ) → i < n → Bounded (point_of (piece i).min)
  unfolding point_of
  min_bounded i h =
      let c = (ok i h).charted in
      lowest_terms.whole_bounded (piece i).min.x (piece i).min.y (omega (arith, c.min_x.small)) (omega (arith, c.min_y.small))

  max_bounded : (i : ℕ) → i < n → Bounded (point_of (piece i).max)
  unfolding point_of
  max_bounded i h =
      let c = (ok i h).charted in
      lowest_terms.whole_bounded (piece i).max.x (piece i).max.y (omega (arith, c.max_x.small)) (omega (arith, c.max_y.small))

  pub reduced : (p : Point) → Occurs C p → Lowest p × Bounded p
  reduced p o = go (occurs_out C o)
    where
      go : End C p ⊎ CrossingAt C p → Lowest p × Bounded p
      go (inl (i, h, inl e)) = rw e (end_lowest (piece i).min, min_bounded i h)
      go (inl (i, h, inr e)) = rw e (end_lowest (piece i).max, max_bounded i h)
      go (inr (q, v, k, e)) =
          let m = (crossing_is_cramers (piece q.0) (piece q.1) (len q.0 (omega arith)) (len q.1 v.1) (kind_crosses _ k)).1 in
          rw e (m.lowest, crossing_stays_bounded (piece q.0) (piece q.1) (ok q.0 (omega arith)).charted (ok q.1 v.1).charted)

  pub positive : (p : Point) → Occurs C p → 0 < p.d
  positive p o = (reduced p o).0.positive

  less_same : (p q : Point) → Occurs C p → Occurs C q → is_less (point_order p q) ≡ false → is_less (point_order q p) ≡ false → p ≡ q
  less_same p q op oq e f = go (point_order p q) refl
    where
      go : (o : Ordering) → point_order p q ≡ o → p ≡ q
      go Less h = absurd (let x : true ≡ false = ap is_less (sym h) ∙ e in let z : ◌≡◌ {A = ℕ} 0 1 = cc in omega arith)
      go Equal h = orders_points.one_record p q (reduced p op).0 (reduced q oq).0 h
      go Greater h = absurd (at_most p q f h)

  pub points_ordered : PointsOrdered C
  points_ordered =
      record {
        less_irr = λ p o. ap is_less (point_itself p);
        less_trans = λ p q r op oq oq' e f. ap is_less (point_trans p q r (positive p op) (positive q oq) (positive r oq') (less_is _ e) (less_is _ f));
        less_same = less_same;
      }

  -- ---- the test
  module _ (i j : ℕ) (hi : i < n) (hj : j < n) where
    pub crossing_point : kind_of (intersect_of (piece i) (piece j)) ≡ crosses → OnlyPoint (piece i) (piece j) (crossing_of (piece i) (piece j))
    crossing_point k = (crossing_is_cramers (piece i) (piece j) (len i hi) (len j hj) (kind_crosses _ k)).1

    shared : (p : Point) → Occurs C p → contains_of (piece i) p ≡ true → contains_of (piece j) p ≡ true → Common (piece i) (piece j) p
    shared p o e f =
        let r = reduced p o in
        record {
          positive = r.0.positive;
          first = (contains_exactly (piece i) p (len i hi) r.0.positive r.1).0 e;
          second = (contains_exactly (piece j) p (len j hj) r.0.positive r.1).0 f;
        }

    pub contains_crosses : (p : Point) → Occurs C p → contains_of (piece i) p ≡ true → contains_of (piece j) p ≡ true → ¬ OneLine (piece i) (piece j) → kind_of (intersect_of (piece i) (piece j)) ≡ crosses
    contains_crosses p o e f na =
        ap kind_of
        (crossing_of_lem (intersect_of (piece i) (piece j)) ((says_yes_exactly (piece i) (piece j) (len i hi) (len j hj)).1 (p, shared p o e f))
        (λ y. na ((overlap_exactly (piece i) (piece j) (len i hi) (len j hj)).0 y).0))

  pub on_range : (i : ℕ) (p : Point) → On (piece i) p → (is_less (point_order p (point_of (piece i).min)) ≡ false) × (is_less (point_order (point_of (piece i).max) p) ≡ false)
  on_range i p o = (not_less (point_of (piece i).min) p (closed_from (piece i) p o), not_less p (point_of (piece i).max) (closed_upto (piece i) p o))

  pub contains_on : (i : ℕ) (p : Point) → i < n → Occurs C p → contains_of (piece i) p ≡ true → On (piece i) p
  contains_on i p h o e = let r = reduced p o in lies_closed (piece i) p ((contains_exactly (piece i) p (len i h) r.0.positive r.1).0 e)

  pub on_contains : (i : ℕ) (p : Point) → i < n → Occurs C p → On (piece i) p → is_less (point_order (point_of (piece i).min) p) ≡ true → is_less (point_order p (point_of (piece i).max)) ≡ true → contains_of (piece i) p ≡ true
  on_contains i p h o on e f =
      let r = reduced p o in
      (contains_exactly (piece i) p (len i h) r.0.positive r.1).1 (lies_inside (piece i) p (closed_line (piece i) p on) (less_is _ e) (less_is _ f))

  -- ---- the squeeze
  pub between : (p c : Point) (i j : ℕ) → CrossIn (piece i) (piece j) p c → CrossBetween C p c i j
  between p c i j x = (ap kind_of x.cross, ap is_less x.after, ap is_less x.until)

  -- ---- for an order that is strict and total and says where pieces lie
  module _ (R : Ranks n piece before) where
    pub squeezed : (p c : Point) → Occurs C p → Occurs C c → is_less (point_order p c) ≡ true → (i k j : ℕ) → Under C p i → Under C p k → Under C p j
        → is_less (point_order c (point_of (piece i).max)) ≡ true → is_less (point_order c (point_of (piece k).max)) ≡ true → is_less (point_order c (point_of (piece j).max)) ≡ true
        → before p i k ≡ true → before p k j ≡ true → On (piece i) c → On (piece j) c → On (piece k) c ⊎ (CrossBetween C p c i k ⊎ CrossBetween C p c k j)
    squeezed p c op oc pc i k j ui uk uj ci ck cj e f oi oj =
        let from = at_most (point_of (piece k).min) p uk.1 in
        ⊎_elim
        (λ (z : side (piece k) c ≡ pos 0).
        inl (closed_of (piece k) c z
        (λ g. never (at_most_less (point_of (piece k).min) p c (whole (piece k).min) (positive p op) (positive c oc) from (less_is _ pc)) g (omega arith))
        (λ g. never (less_is _ ck) g (omega arith))))
        (λ (z : CrossIn (piece i) (piece k) p c ⊎ CrossIn (piece k) (piece j) p c). inr (⊎_elim (λ x. inl (between p c i k x)) (λ x. inr (between p c k j x)) z))
        (squeeze (piece i) (piece k) (piece j) (len i ui.0) (len k uk.0) (len j uj.0) p c (positive p op) (positive c oc)
        (at_most (point_of (piece i).min) p ui.1) from (at_most (point_of (piece j).min) p uj.1) (up_to c (point_of (piece i).max) ci) (up_to c (point_of (piece k).max) ck) (up_to c (point_of (piece j).max) cj)
        (R.precedes p (positive p op) i k ui.0 uk.0 e) (R.precedes p (positive p op) k j uk.0 uj.0 f) (closed_line (piece i) c oi) (closed_line (piece j) c oj) (less_is _ pc))

    unfoldable pub geometry : Geometry C
    unfolding later
    geometry =
        record {
          On = λ i p. On (piece i) p;
          Aligned = λ i j. OneLine (piece i) (piece j);
          ordered = points_ordered;
          min_max = λ i h. ap is_less (forward (piece i) (len i h));
          on_min = λ i h. on_min (piece i) (len i h);
          on_max = λ i h. on_max (piece i) (len i h);
          on_range = λ i p h o on. on_range i p on;
          contains_on = contains_on;
          on_contains = on_contains;
          test_sym = λ i j hi hj ne. ap kind_of (same_whichever_asks (piece i) (piece j) (len i hi) (len j hj)).0;
          crossing_sym = λ i j hi hj ne k. (same_whichever_asks (piece i) (piece j) (len i hi) (len j hj)).1 (kind_crosses _ k);
          crossing_on = λ i j hi hj ne k. let m = crossing_point i j hi hj k in (lies_closed (piece i) _ m.common.first, lies_closed (piece j) _ m.common.second);
          crossing_only = λ i j p hi hj ne o k oi oj. (crossing_point i j hi hj k).only p (reduced p o).0 (closed_line (piece i) p oi) (closed_line (piece j) p oj);
          crossing_not_aligned = λ i j hi hj ne k. (crossing_is_cramers (piece i) (piece j) (len i hi) (len j hj) (kind_crosses _ k)).0;
          contains_crosses = λ i j p hi hj ne o e f na. contains_crosses i j hi hj p o e f na;
          overlap_on = λ i j hi hj ne k. overlap_on (piece i) (piece j) (len i hi) (len j hj) k;
          aligned_dec = λ i j. aligned_dec (piece i) (piece j);
          aligned_trans = λ i j k p hi hj hk o oi oj ok' l m. aligned_trans (piece i) (piece j) (piece k) (len j hj) l m;
          before_irr = R.irr;
          before_trans = λ p o i j k ui uj uk e f. R.trans p (positive p o) i j k ui.0 uj.0 uk.0 e f;
          before_total = λ p o i j ui uj ne e. R.total p (positive p o) i j ui.0 uj.0 ne e;
          squeeze = squeezed;
        }
