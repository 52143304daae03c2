-- What is promised of a place, in whole numbers. Each statement is a type, inhabited in proofs/.
use Rattle.std.specs.Prelude.{◌≡◌, ◌↔◌, Bool, true, false, List, [], ◌∷◌, ℕ, ◌^◌, ℤ, Float}
use Rattle.integers.specs.Size.{Small}
use Rattle.std.specs.declared.cmp.Ordering.TheVariants.{Less, Equal}
use Rattle.fractions.specs.declared.Point.{Point}
use Rattle.fractions.specs.Point.{Lowest, point_order}
use Rattle.line_segment.specs.declared.EndPoint.{EndPoint}
use Rattle.line_segment.specs.declared.LineSegment.{LineSegment}
use Rattle.line_segment.specs.declared.Meeting.{Meeting}
use Rattle.line_segment.specs.Piece.{HasLength, end_order, closed}
use Rattle.line_segment.specs.Geometry.{Common}
use Rattle.line_segment.specs.Segment.{intersect_of, crossing_of}
use Rattle.charts.specs.Verdict.{Verdict}
use Rattle.charts.specs.Piece.{piece_at}
use Rattle.charts.specs.Demand.{PairDue}
use Rattle.place.specs.declared.Where.{Where}
use Rattle.place.specs.declared.PlaceAnswer.{PlaceAnswer}
use Rattle.place.specs.Binary64.{Near, Same}
use Rattle.place.specs.Place.{where_of, place_of, values_of}
use Rattle.place.specs.Pair.{place_answer_of}

-- an end, and a piece, of i16 coordinates
pub record EndInRange (e : EndPoint) : Type 0 where
  pub x : Small (2 ^ 15) e.x
  pub y : Small (2 ^ 15) e.y

pub record InRange (s : LineSegment) : Type 0 where
  pub min : EndInRange s.min
  pub max : EndInRange s.max

-- a point that lies on both, their ends added
abbrev pub Shared : LineSegment → LineSegment → Point → Type 0
Shared a b p = Common (closed a) (closed b) p

-- the two meet at p and share no other point
pub record Single (a b : LineSegment) (p : Point) : Type 0 where
  pub lowest : Lowest p
  pub meet : Common a b p
  pub only : (q : Point) → Shared a b q → point_order p q ≡ Equal

-- "When two collinear pieces share a single point, the place is At that point": so of any two pieces
abbrev pub AtExactly : Type 0
AtExactly = (a b : LineSegment) → HasLength a → HasLength b → (p : Point) → (where_of a b ≡ Where.At p) ↔ Single a b p

-- the two share more than one point
pub record Several (a b : LineSegment) : Type 0 where
  pub one : Point
  pub another : Point
  pub one_shared : Shared a b one
  pub another_shared : Shared a b another
  pub before : point_order one another ≡ Less

-- "and Along only when the ends differ"
abbrev pub says_along : Where → Bool
says_along Where.Nothing = false
says_along (Where.At p) = false
says_along (Where.Along p q) = true

abbrev pub AlongExactly : Type 0
AlongExactly = (a b : LineSegment) → HasLength a → HasLength b → (says_along (where_of a b) ≡ true) ↔ Several a b

-- the values that are due to two pieces, by what the segment test says of them
pub data Due (a b : LineSegment) : List Float → Type 0 where
  nothing : intersect_of a b ≡ Meeting.Nothing → Due a b []
  -- "For At, each value is the binary64 nearest to the exact fraction"
  at : {x y : Float} → intersect_of a b ≡ Meeting.Crossing
      → Near x (crossing_of a b).x (crossing_of a b).d → Near y (crossing_of a b).y (crossing_of a b).d
      → Due a b (x ∷ y ∷ [])
  -- "At that point, with its whole coordinates exact"
  at_end : {s : LineSegment} {x y : Float} → intersect_of a b ≡ Meeting.Overlap s → end_order s.min s.max ≡ Equal
      → Same x s.min.x → Same y s.min.y
      → Due a b (x ∷ y ∷ [])
  -- "Along .. gives the stretch's ends exactly."
  along : {s : LineSegment} {x y u v : Float} → intersect_of a b ≡ Meeting.Overlap s → HasLength s
      → Same x s.min.x → Same y s.min.y → Same u s.max.x → Same v s.max.y
      → Due a b (x ∷ y ∷ u ∷ v ∷ [])

abbrev pub PlaceIsDue : Type 0
PlaceIsDue = (a b : LineSegment) → HasLength a → HasLength b → InRange a → InRange b → Due a b (values_of (place_of a b))

-- the same of the pair call, whose refusals are those of every pair call; an accepted list needs no premise
pub record Refused (k i : ℕ) (r : PlaceAnswer) : Type 0 where
  pub number : r.number ≡ k
  pub place : r.place ≡ i
  pub values : values_of r.meeting ≡ []

pub record Done (a b : LineSegment) (r : PlaceAnswer) : Type 0 where
  pub number : r.number ≡ 0
  pub place : r.place ≡ 0
  pub values : Due a b (values_of r.meeting)

abbrev pub AnswerDue : List ℤ → Verdict → PlaceAnswer → Type 0
AnswerDue list (Verdict.Refused k i) r = Refused k i r
AnswerDue list (Verdict.Accepted n) r = Done (piece_at list 0) (piece_at list 1) r

abbrev pub AnswerIsDue : Type 0
AnswerIsDue = (list : List ℤ) (v : Verdict) → PairDue list v → AnswerDue list v (place_answer_of list)
