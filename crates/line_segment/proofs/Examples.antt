-- The examples of docs/CHART.md of two pieces, computed from the definitions.
use mathlib.Core.Path.{◌≡◌, refl}
use mathlib.Core.Bool.{true, false}
use Prim.Native.Nat.{ℕ}
use lib.IntN.{pos}
use Rattle.orientation.specs.Turn.{det, turn_of}
use Rattle.fractions.specs.Order.{order}
use Rattle.fractions.specs.Fraction.{ratio_order}
use Rattle.fractions.specs.Divisor.{euclid, gcd_of}
use Rattle.fractions.specs.Point.{point_order, common, lowest_of}
use Rattle.line_segment.specs.declared.LineSegment.{LineSegment}
use Rattle.line_segment.specs.declared.Meeting.TheVariants.{Nothing, Crossing, Overlap}
use Rattle.line_segment.specs.Piece.{point_of, end_order, first_included, second_included, join_by, join_of, piece_of}
use Rattle.line_segment.specs.Geometry.{run, rise}
use Rattle.line_segment.specs.Segment.{left_by, leftmost_of, right_by, rightmost_of, within, inner_between, stretch_by, stretch_of, touch_of, turn_to, opposed, astride_of, intersect_of, moment, over, cramer_of, crossing_of}

-- kind, then the four coordinates
abbrev pub at : ℕ → ℕ → ℕ → ℕ → ℕ → LineSegment
at kind x1 y1 x2 y2 = piece_of kind (pos x1) (pos y1) (pos x2) (pos y2)

pub record Examples : Type 0 where
  -- "(0,0)-(4,4) and (0,4)-(4,0), kind 3: the points visited are (0,0) (0,4) (2,2) (4,0) (4,4)."
  pub middle : crossing_of (at 3 0 0 4 4) (at 3 0 4 4 0) ≡ record { x = pos 2; y = pos 2; d = 1 }
  -- "(0,0)-(1,1) and (0,1)-(2,0), kind 3: Crossing at 2, 2 over 3."
  pub thirds : intersect_of (at 3 0 0 1 1) (at 3 0 1 2 0) ≡ Crossing
  pub thirds_at : crossing_of (at 3 0 0 1 1) (at 3 0 1 2 0) ≡ record { x = pos 2; y = pos 2; d = 3 }
  -- "(0,0)-(2,0) and (2,0)-(5,0), kind 3: Overlap, one point. With the second of kind 2: nothing."
  pub one_point : intersect_of (at 3 0 0 2 0) (at 3 2 0 5 0) ≡ Overlap (record { min = record { x = pos 2; y = pos 0; included = true }; max = record { x = pos 2; y = pos 0; included = true } })
  pub no_point : intersect_of (at 3 0 0 2 0) (at 2 2 0 5 0) ≡ Nothing
  -- "(0,0)-(4,0) kind 3, (2,0)-(3,5) kind 3: Crossing at (2,0). Second of kind 2: nothing."
  pub touch : intersect_of (at 3 0 0 4 0) (at 3 2 0 3 5) ≡ Crossing
  pub touch_at : crossing_of (at 3 0 0 4 0) (at 3 2 0 3 5) ≡ record { x = pos 2; y = pos 0; d = 1 }
  pub no_touch : intersect_of (at 3 0 0 4 0) (at 2 2 0 3 5) ≡ Nothing
  -- "the mark travels with its end": the first of kind 1, here the greater
  pub mark : at 1 5 0 2 0 ≡ record { min = record { x = pos 2; y = pos 0; included = false }; max = record { x = pos 5; y = pos 0; included = true } }
  -- the two crossings that docs/COMPARISON.md compares
  pub compared : crossing_of (at 3 1 4 7 7) (at 3 1 6 8 1) ≡ record { x = pos 45; y = pos 82; d = 17 }
  pub compared_with : crossing_of (at 3 0 9 9 5) (at 3 0 0 3 9) ≡ record { x = pos 81; y = pos 243; d = 31 }

pub examples : Examples
unfolding piece_of first_included second_included join_of join_by end_order point_of point_order ratio_order order intersect_of astride_of opposed turn_to turn_of det stretch_of stretch_by rightmost_of right_by leftmost_of left_by touch_of inner_between within crossing_of cramer_of over run rise moment lowest_of common gcd_of euclid
examples =
    record { middle = refl; thirds = refl; thirds_at = refl; one_point = refl; no_point = refl; touch = refl; touch_at = refl; no_touch = refl; mark = refl; compared = refl; compared_with = refl }
