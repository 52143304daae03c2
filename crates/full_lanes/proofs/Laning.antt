-- A lane's key from the branches of the code.
use mathlib.Core.Path.{◌≡◌, refl, ap, ◌∙◌}
use mathlib.Core.Bool.{Bool, true, false, cond}
use mathlib.Core.List.{List}
use mathlib.Core.Option.{none, some}
use Prim.Native.Nat.{ℕ, ◌+◌, ◌<◌, ◌≤◌}
use borrow.Author.Tests.{lt-ltb, le-ltb}
use lib.IntN.{ℤ}
use lib.ListN.{get_or}
use Rattle.fractions.specs.Point.{point_order}
use Rattle.fractions.specs.declared.Point.{Point}
use Rattle.line_segment.specs.declared.LineSegment.{LineSegment}
use Rattle.line_segment.specs.declared.Meeting.TheVariants.{Nothing, Crossing, Overlap}
use Rattle.line_segment.specs.Segment.{intersect_of, cramer_of, crossing_of}
use Rattle.sweep.specs.Lists.{Pair, lesser_first}
use Rattle.sweep.specs.Queue.{beyond}
use Rattle.sweep.specs.Ported.{is_less}
use Rattle.sweep.specs.Sought.{is_crossing}
use Rattle.ported_pieces.specs.Table.{piece_in, rough_at}
use Rattle.ported_pieces.proofs.Crossings.{alike_rough}
use Rattle.full_steps.specs.InPlace.{lane}
use Rattle.full_order.specs.Finer.{finer}
use Rattle.full_points.specs.Spot.{key_of}
use Rattle.full_points.proofs.Keys.{key_lowest}
use Rattle.full_lanes.specs.Lanes.{no_key, keyed, lane_in, pair_at, steeper, lane_by_slope, examined, meeting_at}

-- ---- the answer of the test
pub the_key : (a b : LineSegment) → key_of (cramer_of a b) ≡ key_of (crossing_of a b)
unfolding crossing_of
the_key a b = key_lowest (cramer_of a b)

module _ (table : List ℤ) (i j : ℕ) (p : Point) where
  pub lane_nothing : intersect_of (piece_in table i) (piece_in table j) ≡ Nothing → no_key ≡ keyed (lane_in table p (i, j))
  unfolding lane_in lane is_crossing
  lane_nothing e = rw e

  pub lane_overlap : {s : LineSegment} → intersect_of (piece_in table i) (piece_in table j) ≡ Overlap s → no_key ≡ keyed (lane_in table p (i, j))
  unfolding lane_in lane is_crossing
  lane_overlap e = rw e

  pub lane_crossing : {c : Point} {r : ℕ} → intersect_of (piece_in table i) (piece_in table j) ≡ Crossing → c ≡ cramer_of (piece_in table i) (piece_in table j)
      → r ≡ cond (is_less (point_order p c)) (key_of c) no_key → r ≡ keyed (lane_in table p (i, j))
  unfolding lane_in lane is_crossing beyond
  lane_crossing e f g =
      rw e
      (g
      ∙ ap (λ (c : Point). cond (is_less (point_order p c)) (key_of c) no_key) f
      ∙ rw (alike_rough (piece_in table i) (piece_in table j) p, the_key (piece_in table i) (piece_in table j)) (go (is_less (point_order p (crossing_of (piece_in table i) (piece_in table j)))) _))
    where
      go : (t : Bool) (c : Point) → cond t (key_of c) no_key ≡ keyed (cond t (some c) none)
      go true c = refl
      go false c = refl

-- however many pieces the chart has
pub lane_any : (n : ℕ) (table : List ℤ) (p : Point) (q : Pair) → lane_in table p q ≡ lane (finer n (piece_in table)) (some p) q
unfolding lane_in lane beyond
lane_any n table p q = refl

-- ---- which of two numbers is the lesser
pub first_lesser : (i j : ℕ) → i < j → ◌≡◌ {A = Pair} (i, j) (lesser_first i j)
unfolding lesser_first
first_lesser i j h = rw (lt-ltb i j h)

pub second_lesser : (i j : ℕ) → j ≤ i → ◌≡◌ {A = Pair} (j, i) (lesser_first i j)
unfolding lesser_first
second_lesser i j h = rw (le-ltb i j h)

-- ---- by slope
module _ (table : List ℤ) (p : Point) (i j : ℕ) where
  pub lane_steep : steeper table i j ≡ true → keyed (lane_in table p (lesser_first i j)) ≡ lane_by_slope table p i j
  unfolding lane_by_slope
  lane_steep e = rw e

  pub lane_flat : steeper table i j ≡ false → no_key ≡ lane_by_slope table p i j
  unfolding lane_by_slope
  lane_flat e = rw e

-- ---- the lane of a place
module _ (table : List ℤ) (active : List ℕ) (live k : ℕ) (p : Point) where
  pub examined_two : k + 1 < live → lane_by_slope table p (get_or active k 0) (get_or active (k + 1) 0) ≡ examined table active live k p
  unfolding examined
  examined_two h = rw (lt-ltb (k + 1) live h)

  pub examined_last : live ≤ k + 1 → no_key ≡ examined table active live k p
  unfolding examined
  examined_last h = rw (le-ltb (k + 1) live h)

-- ---- where two places meet
pub rough_is : (table : List ℤ) (i j : ℕ) {a b : LineSegment} {c : Point} → c ≡ cramer_of a b → a ≡ piece_in table i → b ≡ piece_in table j → c ≡ rough_at table (i, j)
unfolding rough_at
rough_is table i j e f g = e ∙ (λ k. cramer_of (f k) (g k))

pub meeting_is : (table : List ℤ) (active : List ℕ) (k : ℕ) → rough_at table (lesser_first (get_or active k 0) (get_or active (k + 1) 0)) ≡ meeting_at table active k
unfolding pair_at
meeting_is table active k = refl
