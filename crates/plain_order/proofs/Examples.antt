-- Charts listed in plain order by the definitions: pairs that share a point, two points of one place in binary64, refusals.
-- Assumes nothing.
use mathlib.Core.Path.{◌≡◌, refl}
use mathlib.Core.List.{List, [], ◌∷◌}
use lib.IntN.{ℤ, pos, negsuc}
use Rattle.orientation.specs.Turn.{det, turn_of}
use Rattle.fractions.specs.Order.{order}
use Rattle.fractions.specs.Fraction.{ratio_order}
use Rattle.fractions.specs.Point.{point_order}
use Rattle.line_segment.specs.Geometry.{run, rise}
use Rattle.line_segment.specs.Piece.{point_of, end_order, first_included, second_included, join_by, join_of, piece_of}
use Rattle.line_segment.specs.Segment.{left_by, leftmost_of, right_by, rightmost_of, within, inner_between, stretch_by, stretch_of, touch_of, turn_to, opposed, astride_of, intersect_of, moment, cramer_of}
use Rattle.line_segment.specs.Segment.{over as over_of}
use Rattle.charts.specs.Fault.{outside, off_range, eq_z, same_ends, fault_of}
use Rattle.charts.specs.Chart.{number_at, fault_at, pieces, verdict_of}
use Rattle.charts.specs.Piece.{kind_of, coordinate_of, piece_at, is_upright, no_upright}
use Rattle.charts.specs.Answer.{room, listing_of, refused_with}
use Rattle.naive.specs.Pairs.{row, rows, bytes, over}
use Rattle.naive.specs.AllPairs.{meets, pairs_of}
use Rattle.sweep.specs.Lists.{place, sort_into, sort}
use Rattle.plain_order.specs.Order.{first_of, before}
use Rattle.plain_order.specs.Plain.{in_order_lem, ordering_of, plain_of, lent_after}

-- (0,0)-(4,4), (0,4)-(4,0), (0,2)-(4,2), (0,3)-(1,4), kind 3: the table of docs/ORDER.md
abbrev ties : List ℤ
ties = pos 3 ∷ pos 0 ∷ pos 0 ∷ pos 4 ∷ pos 4 ∷ pos 3 ∷ pos 0 ∷ pos 4 ∷ pos 4 ∷ pos 0 ∷ pos 3 ∷ pos 0 ∷ pos 2 ∷ pos 4 ∷ pos 2 ∷ pos 3 ∷ pos 0 ∷ pos 3 ∷ pos 1 ∷ pos 4 ∷ []

-- the first two of them
abbrev cross : List ℤ
cross = pos 3 ∷ pos 0 ∷ pos 0 ∷ pos 4 ∷ pos 4 ∷ pos 3 ∷ pos 0 ∷ pos 4 ∷ pos 4 ∷ pos 0 ∷ []

-- pieces 1 and 2 cross piece 0 at points that have one place in binary64; exactly, piece 2 does so first
abbrev near : List ℤ
near =
    pos 3 ∷ negsuc 32766 ∷ pos 1201 ∷ pos 32766 ∷ negsuc 9000 ∷ pos 3 ∷ pos 28858 ∷ pos 565 ∷ pos 16353 ∷ negsuc 10148
    ∷ pos 3 ∷ pos 28585 ∷ negsuc 1944 ∷ pos 14706 ∷ negsuc 10151 ∷ []

-- (0,0)-(4,0), (1,0)-(9,0), (2,1)-(3,-1): an overlap that begins at (1,0), though piece 2 crosses both before it ends
abbrev stretch : List ℤ
stretch = pos 3 ∷ pos 0 ∷ pos 0 ∷ pos 4 ∷ pos 0 ∷ pos 3 ∷ pos 1 ∷ pos 0 ∷ pos 9 ∷ pos 0 ∷ pos 3 ∷ pos 2 ∷ pos 1 ∷ pos 3 ∷ negsuc 0 ∷ []

-- an upright piece and one across it
abbrev upright : List ℤ
upright = pos 3 ∷ pos 0 ∷ pos 0 ∷ pos 0 ∷ pos 10 ∷ pos 3 ∷ negsuc 4 ∷ pos 3 ∷ pos 5 ∷ pos 3 ∷ []

pub record Examples : Type 0 where
  pub shared : in_order_lem ties 4 ≡ (1, 3) ∷ (0, 1) ∷ (0, 2) ∷ (1, 2) ∷ []
  pub shared_bytes : lent_after cross (7 ∷ 7 ∷ 7 ∷ []) ≡ 0 ∷ 1 ∷ 7 ∷ []
  pub one_place : in_order_lem near 3 ≡ (0, 2) ∷ (0, 1) ∷ (1, 2) ∷ []
  pub begins : in_order_lem stretch 3 ≡ (0, 1) ∷ (0, 2) ∷ (1, 2) ∷ []
  pub nineteen : plain_of upright 2 ≡ refused_with 19 0
  pub eight_first : plain_of upright 1 ≡ refused_with 8 0
  pub kept : lent_after upright (7 ∷ 7 ∷ []) ≡ 7 ∷ 7 ∷ []

pub examples : Examples
unfolding in_order_lem ordering_of plain_of lent_after before first_of place sort_into sort pairs_of meets rows row bytes over listing_of room verdict_of pieces fault_at number_at fault_of outside off_range same_ends eq_z piece_at kind_of coordinate_of is_upright no_upright piece_of first_included second_included join_of join_by end_order point_of point_order ratio_order order intersect_of astride_of opposed turn_to turn_of det stretch_of stretch_by rightmost_of right_by leftmost_of left_by touch_of inner_between within run rise moment cramer_of over_of
examples =
    record { shared = refl; shared_bytes = refl; one_place = refl; begins = refl; nineteen = refl; eight_first = refl; kept = refl }
