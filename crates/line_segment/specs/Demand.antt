-- What is promised of the test of two pieces of some length. Each statement is a type, inhabited in proofs/.
use Rattle.std.specs.Prelude.{◌≡◌, ◌↔◌, Bool, true, false, ◌<◌, pos}
use Rattle.integers.specs.Size.{Small}
use Rattle.fractions.specs.declared.Point.{Point}
use Rattle.fractions.specs.Point.{Lowest, Bounded}
use Rattle.line_segment.specs.declared.LineSegment.{LineSegment}
use Rattle.line_segment.specs.declared.Meeting.{Meeting}
use Rattle.line_segment.specs.declared.Meeting.TheVariants.{Nothing, Crossing, Overlap}
use Rattle.line_segment.specs.Piece.{HasLength, point_of, closed}
use Rattle.line_segment.specs.Geometry.{side, LiesOn, Common, OneLine}
use Rattle.line_segment.specs.Segment.{intersect_of, contains_of, crossing_of}

abbrev pub says_yes : Meeting → Bool
says_yes Nothing = false
says_yes Crossing = true
says_yes (Overlap s) = true

abbrev pub says_overlap : Meeting → Bool
says_overlap Nothing = false
says_overlap Crossing = false
says_overlap (Overlap s) = true

-- there is a point that lies on both
abbrev pub Meet : LineSegment → LineSegment → Type 0
Meet a b = (p : Point) × Common a b p

-- the test says yes exactly when there is a point that lies on both
abbrev pub SaysYesExactly : Type 0
SaysYesExactly = (a b : LineSegment) → HasLength a → HasLength b → (says_yes (intersect_of a b) ≡ true) ↔ Meet a b

-- it says Overlap exactly when the two lie on one line and meet
abbrev pub OverlapExactly : Type 0
OverlapExactly =
    (a b : LineSegment) → HasLength a → HasLength b → (says_overlap (intersect_of a b) ≡ true) ↔ (OneLine a b × Meet a b)

-- the answer, an Overlap's ends and marks with it, does not depend on which piece asks; nor does the point of a Crossing
abbrev pub SameWhicheverAsks : Type 0
SameWhicheverAsks =
    (a b : LineSegment) → HasLength a → HasLength b
    → (intersect_of a b ≡ intersect_of b a) × (intersect_of a b ≡ Crossing → crossing_of a b ≡ crossing_of b a)

-- Cramer's point, in lowest terms, lies on both pieces, and no other point is on both lines
pub record OnlyPoint (a b : LineSegment) (c : Point) : Type 0 where
  pub lowest : Lowest c
  pub common : Common a b c
  pub only : (p : Point) → Lowest p → side a p ≡ pos 0 → side b p ≡ pos 0 → p ≡ c

abbrev pub CrossingIsCramers : Type 0
CrossingIsCramers =
    (a b : LineSegment) → HasLength a → HasLength b → intersect_of a b ≡ Crossing
    → ¬ OneLine a b × OnlyPoint a b (crossing_of a b)

-- "Coordinates run from -32,767 to 32,767."
pub record OnChart (s : LineSegment) : Type 0 where
  pub min_x : Small 32767 s.min.x
  pub min_y : Small 32767 s.min.y
  pub max_x : Small 32767 s.max.x
  pub max_y : Small 32767 s.max.y

-- "D stays below 2^33, X and Y below 2^48 in size."
abbrev pub CrossingStaysBounded : Type 0
CrossingStaysBounded = (a b : LineSegment) → OnChart a → OnChart b → Bounded (crossing_of a b)

-- the stretch of an Overlap is the common part; its ends are the first and last common points with the ends counted in
pub record CommonPart (a b s : LineSegment) : Type 0 where
  pub part : (p : Point) → 0 < p.d → Common a b p ↔ LiesOn s p
  pub first : Common (closed a) (closed b) (point_of s.min)
  pub last : Common (closed a) (closed b) (point_of s.max)
  pub ends : (p : Point) → Common (closed a) (closed b) p → LiesOn (closed s) p

abbrev pub OverlapEnds : Type 0
OverlapEnds =
    (a b s : LineSegment) → HasLength a → HasLength b → intersect_of a b ≡ Overlap s → CommonPart a b s

-- of a point within the bounds, `contains` says yes exactly when it lies on the piece
abbrev pub ContainsExactly : Type 0
ContainsExactly =
    (s : LineSegment) (p : Point) → HasLength s → 0 < p.d → Bounded p → (contains_of s p ≡ true) ↔ LiesOn s p
