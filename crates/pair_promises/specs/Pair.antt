-- What is promised of the two calls on a pair of pieces, the segment test and the place, over the number of each case:
-- 0 nothing, 1 a crossing or At, 2 an overlap or Along. An overlap of one point is 2 to the test and 1 to the place.
use Rattle.std.specs.Prelude.{◌≡◌, ◌⊎◌, ◌↔◌, true, List, ℕ, ℤ}
use Rattle.fractions.specs.declared.Point.{Point}
use Rattle.line_segment.specs.declared.EndPoint.{EndPoint}
use Rattle.line_segment.specs.declared.LineSegment.{LineSegment}
use Rattle.line_segment.specs.declared.Meeting.{Meeting}
use Rattle.line_segment.specs.Piece.{HasLength, point_of}
use Rattle.line_segment.specs.Geometry.{Common, OneLine}
use Rattle.line_segment.specs.Demand.{Meet, CommonPart}
use Rattle.charts.specs.Verdict.{Accepted, Refused}
use Rattle.charts.specs.Demand.{PairDue}
use Rattle.charts.specs.Pair.{meeting_of}
use Rattle.charts.specs.Piece.{piece_at}
use Rattle.place.specs.declared.Place.{Place}
use Rattle.place.specs.Binary64.{Near, Same}
use Rattle.place.specs.Pair.{place_answer_of}
use Rattle.place.specs.Demand.{Single, Several}
use Rattle.c_records.specs.declared.End.{End}
use Rattle.c_records.specs.declared.Met.{Met}
use Rattle.c_records.specs.declared.Placed.{Placed}
use Rattle.c_records.specs.Meetings.{no_end, met_as, fields_of}
use Rattle.c_records.specs.Places.{zero, placed_as, placed_of}
use Rattle.promises.specs.Refusals.{RefusalPromises}

-- ---- the segment test: which case is said, exactly when
pub record Said (a b : LineSegment) (meets : ℕ) : Type 0 where
  pub nothing : (meets ≡ 0) ↔ ¬ Meet a b
  pub crossing : (meets ≡ 1) ↔ (¬ OneLine a b × Meet a b)
  pub overlap : (meets ≡ 2) ↔ (OneLine a b × Meet a b)

-- a stretch that is "one point included by both"
pub record OnePoint (a b s : LineSegment) : Type 0 where
  pub same_x : s.min.x ≡ s.max.x
  pub same_y : s.min.y ≡ s.max.y
  pub min_included : s.min.included ≡ true
  pub max_included : s.max.included ≡ true
  pub common : Common a b (point_of s.min)

-- the common part of two pieces of one line: "`Overlap` if that runs forward, or is one point included by both"
pub record Stretch (a b s : LineSegment) : Type 0 where
  pub part : CommonPart a b s
  pub some : HasLength s ⊎ OnePoint a b s

abbrev pub end_of : End → EndPoint
end_of e = record { x = e.x; y = e.y; included = e.included }

abbrev pub stretch_of : Met → LineSegment
stretch_of r = record { min = end_of r.min; max = end_of r.max }

pub record Tested (a b : LineSegment) (r : Met) : Type 0 where
  pub said : Said a b r.meets
  pub stretch : r.meets ≡ 2 → Stretch a b (stretch_of r)
  pub no_stretch : ¬ (r.meets ≡ 2) → (r.min ≡ no_end) × (r.max ≡ no_end)

-- ---- the place: which case is said, exactly when, by how many points are shared, ends added
pub record PlaceSaid (a b : LineSegment) (meets : ℕ) : Type 0 where
  pub nothing : (meets ≡ 0) ↔ ¬ Meet a b
  -- "When two collinear pieces share a single point, the place is At that point": so of any two that meet
  pub at : (meets ≡ 1) ↔ ((p : Point) × Single a b p)
  -- "and Along only when the ends differ"
  pub along : (meets ≡ 2) ↔ Several a b

-- two pieces of one line: "with its whole coordinates exact"
pub record WholeAt (p : Point) (r : Placed) : Type 0 where
  pub whole : p.d ≡ 1
  pub x : Same r.x1 p.x
  pub y : Same r.y1 p.y

pub record PlacedAt (a b : LineSegment) (r : Placed) : Type 0 where
  pub point : Point
  pub single : Single a b point
  -- "each value is the binary64 nearest to the exact fraction"
  pub x : Near r.x1 point.x point.d
  pub y : Near r.y1 point.y point.d
  pub on_one_line : OneLine a b → WholeAt point r
  pub x2_zero : r.x2 ≡ zero
  pub y2_zero : r.y2 ≡ zero

pub record PlacedAlong (a b : LineSegment) (r : Placed) : Type 0 where
  pub along : LineSegment
  pub part : CommonPart a b along
  pub forward : HasLength along
  -- "Along gives the stretch's ends exactly."
  pub x1 : Same r.x1 along.min.x
  pub y1 : Same r.y1 along.min.y
  pub x2 : Same r.x2 along.max.x
  pub y2 : Same r.y2 along.max.y

pub record Located (a b : LineSegment) (r : Placed) : Type 0 where
  pub said : PlaceSaid a b r.meets
  pub nowhere : r.meets ≡ 0 → (r.x1 ≡ zero) × (r.y1 ≡ zero) × (r.x2 ≡ zero) × (r.y2 ≡ zero)
  pub at : r.meets ≡ 1 → PlacedAt a b r
  pub along : r.meets ≡ 2 → PlacedAlong a b r

-- ---- the calls on ten numbers, the first piece asking
-- what the contracts of `meeting_of` and `mirtalughe_meeting`, and of `pair_place` and `mirtalughe_place`, allow
pub record TestAllowed (list : List ℤ) (r : Met) : Type 0 where
  pub returned : r ≡ fields_of (meeting_of list)

pub record PlaceAllowed (list : List ℤ) (r : Placed) : Type 0 where
  pub returned : r ≡ placed_of (place_answer_of list)

module _ {R : Type 0} (Allowed : List ℤ → R → Type 0) where
  -- accepted as the table of refusals says
  abbrev pub OnEveryPair : (LineSegment → LineSegment → R → Type 0) → Type 0
  OnEveryPair P = (list : List ℤ) (n : ℕ) (r : R) → PairDue list (Accepted n) → Allowed list r → P (piece_at list 0) (piece_at list 1) r

  abbrev pub Refusals : (R → ℕ) → (R → ℕ) → (ℕ → ℕ → R) → Type 0
  Refusals number place whole =
      RefusalPromises (λ list k p. PairDue list (Refused k p)) (λ list. (n : ℕ) × PairDue list (Accepted n))
      Allowed number place (λ list. whole)

pub record TestPromises (Allowed : List ℤ → Met → Type 0) : Type 0 where
  pub tested : OnEveryPair Allowed Tested
  pub refusals : Refusals Allowed (λ r. r.number) (λ r. r.place) (λ k p. met_as k p Meeting.Nothing)

pub record PlacePromises (Allowed : List ℤ → Placed → Type 0) : Type 0 where
  pub located : OnEveryPair Allowed Located
  pub refusals : Refusals Allowed (λ r. r.number) (λ r. r.place) (λ k p. placed_as k p Place.Nothing)
