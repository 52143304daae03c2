-- The examples of docs/CHART.md of two pieces, placed by computing the definitions; values by their bits.
use mathlib.Core.Path.{◌≡◌, refl}
use mathlib.Core.List.{List, [], ◌∷◌, map}
use Prim.Native.Nat.{ℕ}
use lib.IntN.{ℤ, pos, negsuc}
use lib.Ieee.{binary64, round, to_bits}
use Rattle.orientation.specs.Turn.{det, turn_of}
use Rattle.fractions.specs.Order.{order}
use Rattle.fractions.specs.Fraction.{ratio_order}
use Rattle.fractions.specs.Divisor.{euclid, gcd_of}
use Rattle.fractions.specs.Point.{point_order, common, lowest_of}
use Rattle.line_segment.specs.declared.LineSegment.{LineSegment}
use Rattle.line_segment.specs.Piece.{point_of, end_order, first_included, second_included, join_by, join_of, piece_of}
use Rattle.line_segment.specs.Geometry.{run, rise}
use Rattle.line_segment.specs.Segment.{left_by, leftmost_of, right_by, rightmost_of, within, inner_between, stretch_by, stretch_of, touch_of, turn_to, opposed, astride_of, intersect_of, moment, over, cramer_of, crossing_of}
use Rattle.place.specs.Binary64.{nearest}
use Rattle.place.specs.Place.{along_by, along_of, where_by, where_of, nearest_point, in_binary64, place_of, values_of}

-- the place of two pieces, each value by its bits
unfoldable pub placed : LineSegment → LineSegment → List ℕ
unfolding to_bits place_of
placed a b = map (to_bits binary64) (values_of (place_of a b))

-- kind 3, then the four coordinates
abbrev pub at : ℤ → ℤ → ℤ → ℤ → LineSegment
at x1 y1 x2 y2 = piece_of 3 x1 y1 x2 y2

pub record Examples : Type 0 where
  -- "(0,0)-(1,1) and (0,1)-(2,0), kind 3: Crossing at 2, 2 over 3."
  pub two_thirds : placed (at (pos 0) (pos 0) (pos 1) (pos 1)) (at (pos 0) (pos 1) (pos 2) (pos 0)) ≡ 0x3fe5_5555_5555_5555 ∷ 0x3fe5_5555_5555_5555 ∷ []
  -- the same turned round
  pub minus_two_thirds : placed (at (pos 0) (pos 0) (negsuc 0) (negsuc 0)) (at (pos 0) (negsuc 0) (negsuc 1) (pos 0)) ≡ 0xbfe5_5555_5555_5555 ∷ 0xbfe5_5555_5555_5555 ∷ []
  -- "Zero is never negative zero."
  pub zero : placed (at (negsuc 0) (negsuc 0) (pos 1) (pos 1)) (at (negsuc 0) (pos 1) (pos 1) (negsuc 0)) ≡ 0 ∷ 0 ∷ []
  -- "(0,0)-(2,0) and (2,0)-(5,0), kind 3: Overlap, one point. With the second of kind 2: nothing." The point is At
  pub one_point : placed (at (pos 0) (pos 0) (pos 2) (pos 0)) (at (pos 2) (pos 0) (pos 5) (pos 0)) ≡ 0x4000_0000_0000_0000 ∷ 0 ∷ []
  pub no_point : placed (at (pos 0) (pos 0) (pos 2) (pos 0)) (piece_of 2 (pos 2) (pos 0) (pos 5) (pos 0)) ≡ []
  -- two points and more: Along, whatever the marks
  pub stretch : placed (at (pos 0) (pos 0) (pos 2) (pos 0)) (piece_of 0 (pos 1) (pos 0) (pos 5) (pos 0)) ≡ 0x3ff0_0000_0000_0000 ∷ 0 ∷ 0x4000_0000_0000_0000 ∷ 0 ∷ []

pub examples : Examples
unfolding placed to_bits place_of in_binary64 where_of where_by along_of along_by nearest_point nearest round crossing_of cramer_of over moment run rise lowest_of common gcd_of euclid intersect_of astride_of opposed turn_to turn_of det stretch_of stretch_by rightmost_of right_by leftmost_of left_by touch_of inner_between within piece_of join_of join_by first_included second_included end_order point_of point_order ratio_order order
examples = record { two_thirds = refl; minus_two_thirds = refl; zero = refl; one_point = refl; no_point = refl; stretch = refl }
