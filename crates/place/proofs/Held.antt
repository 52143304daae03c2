-- Binary64 holds the numbers of every point where two i16 pieces meet: `held_known`, for an arm of a match on `exact`.
-- Assumes nothing.
use mathlib.Core.Path.{◌≡◌, refl, sym, ap, subst, ◌∙◌}
use mathlib.Core.Logic.{◌⊎◌, inl, inr}
use mathlib.Core.Bool.{Bool, true, false, cond, ◌&&◌}
use Prim.Native.Nat.{◌^◌, ◌<◌, ◌≤◌}
use native.Mathlib.Nat.{le_trans, le_of_eq, div-le_self, eq-zero-or-pos, not-suc-le-zero}
use lib.Dec.{lit<, lit≤}
use lib.IntN.{ℤ, pos, negsuc, nat_abs}
use Rattle.integers.specs.Size.{Small}
use Rattle.integers.proofs.Machine.{m_bound}
use Rattle.integers.proofs.Sizes.{abs_neg}
use Rattle.integers.proofs.Tests.{sized}
use Rattle.orientation.specs.Turn.{is_straight}
use Rattle.std.specs.declared.cmp.Ordering.{Ordering}
use Rattle.std.specs.declared.cmp.Ordering.TheVariants.{Less, Equal, Greater}
use Rattle.fractions.specs.declared.Point.{Point}
use Rattle.fractions.specs.Point.{lowest_of, common}
use Rattle.fractions.proofs.Quotient.{quot_size}
use Rattle.fractions.proofs.LowestTerms.{lowest_lowest}
use Rattle.line_segment.specs.declared.EndPoint.{EndPoint}
use Rattle.line_segment.specs.declared.LineSegment.{LineSegment}
use Rattle.line_segment.specs.declared.Meeting.{Meeting}
use Rattle.line_segment.specs.Piece.{point_of}
use Rattle.line_segment.specs.Geometry.{run, rise}
use Rattle.line_segment.specs.Segment.{intersect_of, astride_of, opposed, turn_to, touch_of, inner_between, stretch_of, stretch_by, leftmost_of, rightmost_of, left_by, right_by, moment, over, cramer_of, crossing_of}
use Rattle.place.specs.declared.Where.{Where}
use Rattle.place.specs.Place.{Held, where_by, where_of}
use Rattle.place.specs.Demand.{EndInRange, InRange}
use Rattle.place.proofs.Parallel.{no_crossing}
use Rattle.place.proofs.Points.{All, along_all}

-- ---- Cramer's point
record Sizes (p : Point) : Type 0 where
  x : nat_abs p.x ≤ 2 ^ 53
  y : nat_abs p.y ≤ 2 ^ 53
  d : p.d ≤ 2 ^ 53

of_terms : {x y d : ℤ} → Small (2 ^ 53) x → Small (2 ^ 53) y → Small (2 ^ 53) d → Sizes (over x y d)
unfolding over
of_terms {d = pos n} h k l = record { x = h.small; y = k.small; d = l.small }
of_terms {x} {y} {d = negsuc n} h k l = record { x = rw abs_neg h.small; y = rw abs_neg k.small; d = l.small }

cramer_sizes : (a b : LineSegment) → InRange a → InRange b → Sizes (cramer_of a b)
unfolding cramer_of run rise moment
cramer_sizes a b r s =
    of_terms (m_bound (search sized depth 60 fits 20000) tt) (m_bound (search sized depth 60 fits 20000) tt) (m_bound (search sized depth 60 fits 20000) tt)

-- D is the size of the determinant, which is 0 only where the lines are parallel
over_zero : (x y d : ℤ) → (over x y d).d ≡ 0 → d ≡ pos 0
unfolding over
over_zero x y (pos n) e = ap pos e
over_zero x y (negsuc n) e = absurd (not-suc-le-zero (le_of_eq e))

positive : (a b : LineSegment) → intersect_of a b ≡ Meeting.Crossing → 0 < (cramer_of a b).d
unfolding cramer_of
positive a b e = go (eq-zero-or-pos (cramer_of a b).d)
  where
    go : ((cramer_of a b).d ≡ 0) ⊎ (0 < (cramer_of a b).d) → 0 < (cramer_of a b).d
    go (inr h) = h
    go (inl z) = absurd (no_crossing a b (over_zero _ _ _ z) e)

pub crossing_held : (a b : LineSegment) → InRange a → InRange b → intersect_of a b ≡ Meeting.Crossing → Held (crossing_of a b)
unfolding crossing_of lowest_of
crossing_held a b r s e =
    let p = cramer_of a b in
    let g = common p.x p.y p.d in
    let h = cramer_sizes a b r s in
    record {
      positive = (lowest_lowest p.x p.y p.d (positive a b e)).positive;
      x = le_trans (le_of_eq (quot_size p.x g)) (le_trans (div-le_self (nat_abs p.x) g) h.x);
      y = le_trans (le_of_eq (quot_size p.y g)) (le_trans (div-le_self (nat_abs p.y) g) h.y);
      d = le_trans (div-le_self p.d g) h.d;
    }

-- ---- the stretch: its ends are ends of the two pieces
end_held : {e : EndPoint} → EndInRange e → Held (point_of e)
unfolding point_of
end_held r = record { positive = lit< tt; x = le_trans r.x.small (lit≤ tt); y = le_trans r.y.small (lit≤ tt); d = lit≤ tt }

exclusive_in : (i : Bool) {a b : EndPoint} → EndInRange a → EndInRange b → EndInRange (cond i b a)
exclusive_in true h k = k
exclusive_in false h k = h

rightmost_in : (o : Ordering) {a b : EndPoint} → EndInRange a → EndInRange b → EndInRange (right_by o a b)
unfolding right_by
rightmost_in Less h k = k
rightmost_in Equal {a} h k = exclusive_in a.included h k
rightmost_in Greater h k = h

leftmost_in : (o : Ordering) {a b : EndPoint} → EndInRange a → EndInRange b → EndInRange (left_by o a b)
unfolding left_by
leftmost_in Less h k = h
leftmost_in Equal {a} h k = exclusive_in a.included h k
leftmost_in Greater h k = k

pub data StretchInRange : Meeting → Type 0 where
  nothing : StretchInRange Meeting.Nothing
  crossing : StretchInRange Meeting.Crossing
  overlap : {s : LineSegment} → InRange s → StretchInRange (Meeting.Overlap s)

either : (t : Bool) {x y : Meeting} → StretchInRange x → StretchInRange y → StretchInRange (cond t x y)
either true h k = h
either false h k = k

stretch_in : (o : Ordering) {s : LineSegment} → InRange s → StretchInRange (stretch_by o s)
unfolding stretch_by
stretch_in Less h = overlap h
stretch_in Equal {s} h = either (s.max.included && s.min.included) (overlap h) nothing
stretch_in Greater h = nothing

touch_in : (e : EndPoint) (s : LineSegment) → StretchInRange (touch_of e s)
unfolding touch_of
touch_in e s = either (e.included && inner_between (point_of e) s.min s.max) crossing nothing

pub meeting_in : (a b : LineSegment) → InRange a → InRange b → StretchInRange (intersect_of a b)
unfolding intersect_of astride_of stretch_of rightmost_of leftmost_of
meeting_in a b r s =
    let b_min = turn_to a b.min in
    let b_max = turn_to a b.max in
    let a_min = turn_to b a.min in
    let a_max = turn_to b a.max in
    either (is_straight b_min && is_straight b_max) (stretch_in _ (record { min = rightmost_in _ r.min s.min; max = leftmost_in _ r.max s.max }))
    (either (is_straight b_min) (touch_in b.min a)
    (either (is_straight b_max) (touch_in b.max a)
    (either (is_straight a_min) (touch_in a.min b)
    (either (is_straight a_max) (touch_in a.max b)
    (either (opposed b_min b_max && opposed a_min a_max) crossing nothing)))))

-- ---- the meeting
all_held : (a b : LineSegment) → InRange a → InRange b → All Held (where_of a b)
unfolding where_of where_by
all_held a b r s = go (intersect_of a b) refl (meeting_in a b r s)
  where
    go : (m : Meeting) → intersect_of a b ≡ m → StretchInRange m → All Held (where_by m (crossing_of a b))
    go Meeting.Nothing e h = tt
    go Meeting.Crossing e h = crossing_held a b r s e
    go (Meeting.Overlap t) e (overlap h) = along_all Held t (end_held h.min) (end_held h.max)

-- what an arm that knows the answer knows of its points
pub held_known : {a b : LineSegment} {r w : Where} → InRange a → InRange b → r ≡ where_of a b → r ≡ w → All Held w
held_known {a} {b} h k e f = subst (All Held) (sym e ∙ f) (all_held a b h k)
