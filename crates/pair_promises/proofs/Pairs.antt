-- The promises of the segment test and of the place of two pieces.
-- Assumes nothing.
use mathlib.Core.Path.{◌≡◌, refl, sym, ap, ◌∙◌, subst}
use mathlib.Core.Logic.{◌⊎◌, ◌↔◌, inl, inr}
use mathlib.Core.Bool.{Bool, true, false}
use mathlib.Core.List.{List, [], ◌∷◌}
use Prim.Native.Nat.{ℕ, ◌*◌, ◌^◌, ◌<◌, ◌≤◌}
use native.Mathlib.Omega.{arith}
use lib.IntN.{ℤ, nat_abs}
use lib.ListN.{length}
use Rattle.fractions.specs.Order.{turned}
use Rattle.fractions.specs.Point.{point_order, whole_of}
use Rattle.std.specs.declared.cmp.Ordering.{Ordering}
use Rattle.std.specs.declared.cmp.Ordering.TheVariants.{Less, Equal, Greater}
use Rattle.fractions.specs.declared.Point.{Point}
use Rattle.fractions.proofs.Promises.{orders_points, lowest_terms}
use Rattle.line_segment.specs.declared.LineSegment.{LineSegment}
use Rattle.line_segment.specs.declared.Meeting.{Meeting}
use Rattle.line_segment.specs.declared.Meeting.TheVariants.{Nothing, Crossing, Overlap}
use Rattle.line_segment.specs.Piece.{HasLength, point_of, end_order}
use Rattle.line_segment.specs.Geometry.{admits, LiesOn, Common, OneLine}
use Rattle.line_segment.specs.Segment.{intersect_of, crossing_of}
use Rattle.line_segment.specs.Demand.{says_yes, says_overlap, Meet, CommonPart}
use Rattle.line_segment.proofs.Booleans.{no}
use Rattle.line_segment.proofs.Lying.{whole, same_lies}
use Rattle.line_segment.proofs.Promises.{says_yes_exactly, overlap_exactly, overlap_ends}
use Rattle.charts.specs.Verdict.{Verdict}
use Rattle.charts.specs.Verdict.{Accepted, Refused}
use Rattle.charts.specs.Demand.{Due, done, PairDue, ten}
use Rattle.charts.specs.Pair.{pair_verdict_of, meeting_answer, meeting_of}
use Rattle.charts.specs.Piece.{piece_at}
use Rattle.charts.proofs.Accepted.{pieces_have_length}
use Rattle.charts.proofs.Exactly.{refuses_exactly}
use Rattle.charts.proofs.Ten.{pair_refuses_exactly}
use Rattle.chart_verdict.proofs.meeting_of.Reads as meeting
use Rattle.sweep.proofs.Tests.{clash}
use Rattle.place.specs.declared.Place.{Place}
use Rattle.place.specs.declared.Where.{Where}
use Rattle.place.specs.Binary64.{Same, nearest}
use Rattle.place.specs.Place.{along_by, along_of, where_by, where_of, nearest_point, in_binary64, place_of, values_of}
use Rattle.place.specs.Pair.{place_answer, place_answer_of}
use Rattle.place.specs.Demand as place_due
use Rattle.place.specs.Demand.{InRange, Single, says_along}
use Rattle.place.proofs.Promises.{near, same}
use Rattle.place.proofs.Inside.{x_inside, y_inside}
use Rattle.place.proofs.Sharing.{at_exactly, along_exactly}
use Rattle.place.proofs.Held.{held_known}
use Rattle.place.proofs.Due.{place_is_due}
use Rattle.place.proofs.Given.{given_in_range}
use Rattle.nearest_place.proofs.pair_place.Reads as pair_place
use Rattle.c_records.specs.declared.Met.{Met}
use Rattle.c_records.specs.declared.Placed.{Placed}
use Rattle.c_records.specs.Meetings.{met_as, fields_of}
use Rattle.c_records.specs.Places.{placed_as, placed_of}
use Rattle.chart_c.proofs.mirtalughe_meeting.Reads as meeting_c
use Rattle.chart_c.proofs.mirtalughe_place.Reads as place_c
use Rattle.pair_promises.specs.Pair.{Said, OnePoint, Stretch, Tested, PlaceSaid, PlacedAt, Located, TestAllowed, PlaceAllowed, TestPromises, PlacePromises}
use Rattle.promises.proofs.Refusing.{refusing, pair_decided}
use Rattle.promises.proofs.Geometry.{crossing_exactly}

-- ---- the contracts themselves allow no other outcome
pub allows_meeting : (κ : _) (a : _) (r : _) (s : _) → meeting.Post κ a r s → TestAllowed a.0.now (fields_of r)
allows_meeting κ a r s h = record { returned = ap fields_of h }

pub allows_meeting_c : (κ : _) (a : _) (r : _) (s : _) → meeting_c.Post κ a r s → TestAllowed a.0.now r
allows_meeting_c κ a r s h = record { returned = h }

pub allows_place : (κ : _) (a : _) (r : _) (s : _) → pair_place.Post κ a r s → PlaceAllowed a.0.now (placed_of r)
allows_place κ a r s h = record { returned = ap placed_of h }

pub allows_place_c : (κ : _) (a : _) (r : _) (s : _) → place_c.Post κ a r s → PlaceAllowed a.0.now r
allows_place_c κ a r s h = record { returned = h }

-- ---- which case is said
abbrev case_of : Meeting → ℕ
case_of Nothing = 0
case_of Crossing = 1
case_of (Overlap s) = 2

module _ (a b : LineSegment) (la : HasLength a) (lb : HasLength b) where
  said : (m : Meeting) → intersect_of a b ≡ m → Said a b (case_of m)
  said m e =
      record {
        nothing = (λ z. no m e z, λ n. none m e n);
        crossing = (λ z. (crossing_exactly a b la lb).0 (one m e z), λ h. ap case_of (sym e ∙ (crossing_exactly a b la lb).1 h));
        overlap = (λ z. (overlap_exactly a b la lb).0 (two m e z), λ h. over m (sym (ap says_overlap e) ∙ (overlap_exactly a b la lb).1 h));
      }
    where
      no : (m : Meeting) → intersect_of a b ≡ m → case_of m ≡ 0 → ¬ Meet a b
      no Nothing e z h = clash ((says_yes_exactly a b la lb).1 h) (ap says_yes e)
      no Crossing e z h = absurd (omega arith)
      no (Overlap s) e z h = absurd (omega arith)

      none : (m : Meeting) → intersect_of a b ≡ m → ¬ Meet a b → case_of m ≡ 0
      none Nothing e n = refl
      none Crossing e n = absurd (n ((says_yes_exactly a b la lb).0 (ap says_yes e)))
      none (Overlap s) e n = absurd (n ((says_yes_exactly a b la lb).0 (ap says_yes e)))

      one : (m : Meeting) → intersect_of a b ≡ m → case_of m ≡ 1 → intersect_of a b ≡ Crossing
      one Nothing e z = absurd (omega arith)
      one Crossing e z = e
      one (Overlap s) e z = absurd (omega arith)

      two : (m : Meeting) → intersect_of a b ≡ m → case_of m ≡ 2 → says_overlap (intersect_of a b) ≡ true
      two Nothing e z = absurd (omega arith)
      two Crossing e z = absurd (omega arith)
      two (Overlap s) e z = ap says_overlap e

      over : (m : Meeting) → says_overlap m ≡ true → case_of m ≡ 2
      over Nothing h = clash h refl
      over Crossing h = clash h refl
      over (Overlap s) h = refl

-- ---- the common part of pieces that meet runs forward, or is one point of both
less_of : (o : Ordering) (m : Bool) → admits o m ≡ true → (o ≡ Less) ⊎ ((o ≡ Equal) × (m ≡ true))
less_of Less m e = inl refl
less_of Equal m e = inr (refl, e)
less_of Greater m e = clash e refl

module _ (a b s : LineSegment) (c : CommonPart a b s) (p : Point) (k : Common a b p) where
  runs : HasLength s ⊎ OnePoint a b s
  unfolding end_order point_of
  runs = go (less_of _ _ on.from) (less_of _ _ on.upto)
    where
      m : Point
      m = point_of s.min

      M : Point
      M = point_of s.max

      on : LiesOn s p
      on = (c.part p k.positive).0 k

      -- m and p are one point: what p is to M, so is m
      one : point_order m p ≡ Equal → point_order m M ≡ point_order p M
      one e = orders_points.alike m p M (whole s.min) k.positive e

      point : point_order m p ≡ Equal → s.min.included ≡ true → point_order p M ≡ Equal → s.max.included ≡ true → OnePoint a b s
      point e i f j =
          let back : point_order p m ≡ Equal = orders_points.other_way m p ∙ ap turned e in
          let z : m ≡ M = orders_points.one_record m M (lowest_terms.whole s.min.x s.min.y) (lowest_terms.whole s.max.x s.max.y) (one e ∙ f) in
          record {
            same_x = ap (λ (q : Point). q.x) z;
            same_y = ap (λ (q : Point). q.y) z;
            min_included = i;
            max_included = j;
            common = record {
              positive = whole s.min;
              first = same_lies a p m k.positive (whole s.min) back k.first;
              second = same_lies b p m k.positive (whole s.min) back k.second;
            };
          }

      go : (point_order m p ≡ Less) ⊎ ((point_order m p ≡ Equal) × (s.min.included ≡ true)) → (point_order p M ≡ Less) ⊎ ((point_order p M ≡ Equal) × (s.max.included ≡ true)) → HasLength s ⊎ OnePoint a b s
      go (inl e) (inl f) = inl (orders_points.transitive m p M (whole s.min) k.positive (whole s.max) e f)
      go (inl e) (inr (f, j)) =
          inl (orders_points.other_way M m ∙ ap turned (sym (orders_points.alike p M m k.positive (whole s.max) f) ∙ orders_points.other_way m p ∙ ap turned e))
      go (inr (e, i)) (inl f) = inl (one e ∙ f)
      go (inr (e, i)) (inr (f, j)) = inr (point e i f j)

module _ (a b : LineSegment) (la : HasLength a) (lb : HasLength b) where
  pub stretch_is : (s : LineSegment) → intersect_of a b ≡ Overlap s → Stretch a b s
  stretch_is s e =
      let m = (says_yes_exactly a b la lb).0 (ap says_yes e) in
      let c = overlap_ends a b s la lb e in
      record { part = c; some = runs a b s c m.0 m.1 }

-- ---- the two pieces of an accepted list
two : (list : List ℤ) (n : ℕ) → length list ≡ 10 → Due list (Accepted n) → n ≡ 2
two list n e (done _ l _ _) = omega arith

long : (list : List ℤ) (n : ℕ) → PairDue list (Accepted n) → HasLength (piece_at list 0) × HasLength (piece_at list 1)
long list n (ten e v d) =
    let n2 : n ≡ 2 = two list n e d in
    let a = (refuses_exactly list (Accepted n)).1 d in
    (pieces_have_length list n 0 a (omega arith), pieces_have_length list n 1 a (omega arith))

-- ---- the segment test
module _ (a b : LineSegment) (la : HasLength a) (lb : HasLength b) where
  tested : (m : Meeting) → intersect_of a b ≡ m → Tested a b (met_as 0 0 m)
  tested Nothing e = record { said = said a b la lb Nothing e; stretch = λ z. absurd (omega arith); no_stretch = λ z. (refl, refl) }
  tested Crossing e = record { said = said a b la lb Crossing e; stretch = λ z. absurd (omega arith); no_stretch = λ z. (refl, refl) }
  tested (Overlap s) e = record { said = said a b la lb (Overlap s) e; stretch = λ z. stretch_is a b la lb s e; no_stretch = λ z. absurd (z refl) }

module _ (list : List ℤ) where
  test_done : (n : ℕ) → PairDue list (Accepted n) → fields_of (meeting_of list) ≡ met_as 0 0 (intersect_of (piece_at list 0) (piece_at list 1))
  unfolding fields_of meeting_of
  test_done n d = rw ((pair_refuses_exactly list (Accepted n)).1 d)

  test_refused : (k p : ℕ) → PairDue list (Refused k p) → fields_of (meeting_of list) ≡ met_as k p Nothing
  unfolding fields_of meeting_of
  test_refused k p d = rw ((pair_refuses_exactly list (Refused k p)).1 d)

fields_zero : (m : Meeting) → ((met_as 0 0 m).number ≡ 0) × ((met_as 0 0 m).place ≡ 0)
fields_zero Nothing = (refl, refl)
fields_zero Crossing = (refl, refl)
fields_zero (Overlap s) = (refl, refl)

pub test_promises : TestPromises TestAllowed
test_promises =
    record {
      tested = λ list n r d o.
          let l = long list n d in
          rw (o.returned ∙ test_done list n d) (tested (piece_at list 0) (piece_at list 1) l.0 l.1 (intersect_of (piece_at list 0) (piece_at list 1)) refl);
      refusals = refusing pair_decided
          (λ list r o k p d. o.returned ∙ test_refused list k p d)
          (λ list r o c. let z = fields_zero (intersect_of (piece_at list 0) (piece_at list 1)) in rw (o.returned ∙ test_done list c.0 c.1) z)
          (λ list k p. (refl, refl));
    }

-- ---- the place
abbrev place_case : Where → ℕ
place_case Where.Nothing = 0
place_case (Where.At p) = 1
place_case (Where.Along p q) = 2

-- an end of a stretch is whole
end_whole : (o : Ordering) (s : LineSegment) (p : Point) → along_by o (point_of s.min) (point_of s.max) ≡ Where.At p → p.d ≡ 1
unfolding along_by point_of
end_whole Less s p w = no (cc)
end_whole Equal s p w = let is : point_of s.min ≡ p = cc in sym (ap (λ (q : Point). q.d) is)
end_whole Greater s p w = no (cc)

module _ (a b : LineSegment) (la : HasLength a) (lb : HasLength b) where
  place_said : (w : Where) → where_of a b ≡ w → (place_case w ≡ 0) ↔ ¬ Meet a b → PlaceSaid a b (place_case w)
  place_said w e n =
      record {
        nothing = n;
        at = (λ z. one w e z, λ h. ap place_case (sym e ∙ (at_exactly a b la lb h.0).1 h.1));
        along = (λ z. (along_exactly a b la lb).0 (ap says_along e ∙ two w z), λ h. more w (sym (ap says_along e) ∙ (along_exactly a b la lb).1 h));
      }
    where
      one : (w : Where) → where_of a b ≡ w → place_case w ≡ 1 → (p : Point) × Single a b p
      one Where.Nothing e z = absurd (omega arith)
      one (Where.At p) e z = (p, (at_exactly a b la lb p).0 e)
      one (Where.Along p q) e z = absurd (omega arith)

      two : (w : Where) → place_case w ≡ 2 → says_along w ≡ true
      two Where.Nothing z = absurd (omega arith)
      two (Where.At p) z = absurd (omega arith)
      two (Where.Along p q) z = refl

      more : (w : Where) → says_along w ≡ true → place_case w ≡ 2
      more Where.Nothing h = clash h refl
      more (Where.At p) h = clash h refl
      more (Where.Along p q) h = refl

  -- pieces of one line have their point at an end
  whole_at : (p : Point) → where_of a b ≡ Where.At p → OneLine a b → p.d ≡ 1
  unfolding where_of where_by along_of
  whole_at p w l = go (intersect_of a b) refl w
    where
      go : (m : Meeting) → intersect_of a b ≡ m → where_by m (crossing_of a b) ≡ Where.At p → p.d ≡ 1
      go Nothing e w = no (cc)
      go Crossing e w = absurd (((crossing_exactly a b la lb).0 e).0 l)
      go (Overlap s) e w = end_whole (end_order s.min s.max) s p w

  module _ (ra : InRange a) (rb : InRange b) where
    at_point : (p : Point) → where_of a b ≡ Where.At p → PlacedAt a b (placed_as 0 0 (Place.At (nearest_point p)))
    unfolding nearest_point
    at_point p e =
        let h = (at_exactly a b la lb p).0 e in
        let held = held_known {a = a} {b = b} {r = where_of a b} {w = Where.At p} ra rb refl e in
        let x = x_inside a p h.meet.first ra in
        let y = y_inside a p h.meet.first ra la in
        record {
          point = p;
          single = h;
          x = near p.x p.d held.positive held.d x;
          y = near p.y p.d held.positive held.d y;
          on_one_line = λ l.
              let w = whole_at p e l in
              record { whole = w; x = exact p.x p.d w x; y = exact p.y p.d w y };
          x2_zero = refl;
          y2_zero = refl;
        }
      where
        exact : (z : ℤ) (d : ℕ) → d ≡ 1 → nat_abs z ≤ 2 ^ 15 * d → Same (nearest z d) z
        exact z d w h = subst (λ (n : ℕ). Same (nearest z n) z) (sym w) (same z (omega (arith, w, h)))

    located : (w : Where) → where_of a b ≡ w → place_due.Due a b (values_of (in_binary64 w)) → Located a b (placed_as 0 0 (in_binary64 w))
    unfolding in_binary64
    located Where.Nothing w (place_due.nothing e) =
        record {
          said = place_said Where.Nothing w (λ z h. clash ((says_yes_exactly a b la lb).1 h) (ap says_yes e), λ n. refl);
          nowhere = λ z. (refl, refl, refl, refl);
          at = λ z. absurd (omega arith);
          along = λ z. absurd (omega arith);
        }
    located (Where.At p) w d =
        let h = at_point p w in
        record {
          said = place_said (Where.At p) w (λ z. absurd (omega arith), λ n. absurd (n (p, ((at_exactly a b la lb p).0 w).meet)));
          nowhere = λ z. absurd (omega arith);
          at = λ z. h;
          along = λ z. absurd (omega arith);
        }
    located (Where.Along p q) w (place_due.along {s} e l x y u t) =
        record {
          said = place_said (Where.Along p q) w (λ z. absurd (omega arith), λ n. absurd (n ((says_yes_exactly a b la lb).0 (ap says_yes e))));
          nowhere = λ z. absurd (omega arith);
          at = λ z. absurd (omega arith);
          along = λ z. record { along = s; part = overlap_ends a b s la lb e; forward = l; x1 = x; y1 = y; x2 = u; y2 = t };
        }

    pub place_located : Located a b (placed_as 0 0 (place_of a b))
    unfolding place_of
    place_located = located (where_of a b) refl (place_is_due a b la lb ra rb)

module _ (list : List ℤ) where
  abbrev place : Place
  place = place_of (piece_at list 0) (piece_at list 1)

  place_done : (n : ℕ) → PairDue list (Accepted n) → placed_of (place_answer_of list) ≡ placed_as 0 0 place
  unfolding placed_of place_answer_of
  place_done n d = rw ((pair_refuses_exactly list (Accepted n)).1 d)

  place_refused : (k p : ℕ) → PairDue list (Refused k p) → placed_of (place_answer_of list) ≡ placed_as k p Place.Nothing
  unfolding placed_of place_answer_of
  place_refused k p d = rw ((pair_refuses_exactly list (Refused k p)).1 d)

values_zero : (q : Place) → ((placed_as 0 0 q).number ≡ 0) × ((placed_as 0 0 q).place ≡ 0)
values_zero Place.Nothing = (refl, refl)
values_zero (Place.At v) = (refl, refl)
values_zero (Place.Along v w) = (refl, refl)

pub place_promises : PlacePromises PlaceAllowed
place_promises =
    record {
      located = λ list n r d o.
          let l = long list n d in
          rw (o.returned ∙ place_done list n d)
          (place_located (piece_at list 0) (piece_at list 1) l.0 l.1 (given_in_range list 0) (given_in_range list 1));
      refusals = refusing pair_decided
          (λ list r o k p d. o.returned ∙ place_refused list k p d)
          (λ list r o c. rw (o.returned ∙ place_done list c.0 c.1) (values_zero (place list)))
          (λ list k p. (refl, refl));
    }
