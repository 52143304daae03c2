-- The upright gap of docs/CHART.md, where (1,0) and (2,0) meet, and lists held to it by the definitions.
use mathlib.Core.Path.{◌≡◌, refl}
use mathlib.Core.List.{List, [], ◌∷◌}
use lib.IntN.{ℤ, pos, negsuc}
use Rattle.orientation.specs.Turn.{det, turn_of}
use Rattle.fractions.specs.Order.{order}
use Rattle.fractions.specs.Fraction.{ratio_order}
use Rattle.fractions.specs.Point.{point_order}
use Rattle.line_segment.specs.Piece.{point_of, end_order, first_included, second_included, join_by, join_of, piece_of}
use Rattle.line_segment.specs.Segment.{left_by, leftmost_of, right_by, rightmost_of, within, inner_between, stretch_by, stretch_of, touch_of, turn_to, opposed, astride_of, intersect_of}
use Rattle.charts.specs.Fault.{outside, off_range, eq_z, same_ends, fault_of}
use Rattle.charts.specs.Chart.{number_at, fault_at, pieces, verdict_of}
use Rattle.charts.specs.Piece.{kind_of, coordinate_of, piece_at}
use Rattle.naive.specs.Pairs.{row, rows}
use Rattle.naive.specs.AllPairs.{meets}
use Rattle.supplied.specs.declared.Checked.TheVariants.{Accepted, Fault, Missing, Refused}
use Rattle.supplied.specs.Entries.{greater, lesser, named, faults, missing}
use Rattle.supplied.specs.Entries.{fault_of as entry_fault_of}
use Rattle.supplied.specs.Entries.{fault_at as entry_fault_at}
use Rattle.supplied.specs.Checking.{held_to, supplied_of, checked_of}

-- "Upright gap: piece 0 (0,0)-(0,10), piece 1 (-5,3)-(5,3), piece 2 (-5,6)-(5,6), kind 3."
abbrev gap : List ℤ
gap = pos 3 ∷ pos 0 ∷ pos 0 ∷ pos 0 ∷ pos 10 ∷ pos 3 ∷ negsuc 4 ∷ pos 3 ∷ pos 5 ∷ pos 3 ∷ pos 3 ∷ negsuc 4 ∷ pos 6 ∷ pos 5 ∷ pos 6 ∷ []

pub record Examples : Type 0 where
  pub right : checked_of gap (1 ∷ 0 ∷ 2 ∷ 0 ∷ []) ≡ Accepted
  pub turned : checked_of gap (0 ∷ 2 ∷ 0 ∷ 1 ∷ []) ≡ Accepted
  pub none : checked_of gap [] ≡ Missing 1 0
  pub one_less : checked_of gap (0 ∷ 1 ∷ []) ≡ Missing 2 0
  pub no_piece : checked_of gap (2 ∷ 0 ∷ 0 ∷ 3 ∷ []) ≡ Fault 1 1
  pub no_piece_first : checked_of gap (9 ∷ 9 ∷ []) ≡ Fault 0 1
  pub itself : checked_of gap (2 ∷ 2 ∷ 9 ∷ 9 ∷ []) ≡ Fault 0 2
  pub apart : checked_of gap (1 ∷ 0 ∷ 2 ∷ 1 ∷ []) ≡ Fault 1 3
  pub repeated : checked_of gap (1 ∷ 0 ∷ 2 ∷ 0 ∷ 0 ∷ 1 ∷ []) ≡ Fault 2 4
  pub odd : checked_of gap (1 ∷ []) ≡ Refused 16 0
  pub no_list : checked_of (pos 3 ∷ []) (1 ∷ []) ≡ Refused 9 0
  pub no_pieces : checked_of [] [] ≡ Accepted

pub examples : Examples
unfolding checked_of supplied_of held_to faults missing entry_fault_at entry_fault_of named greater lesser meets rows row verdict_of pieces fault_at number_at fault_of outside off_range same_ends eq_z piece_at kind_of coordinate_of piece_of first_included second_included join_of join_by end_order point_of point_order ratio_order order intersect_of astride_of opposed turn_to turn_of det stretch_of stretch_by rightmost_of right_by leftmost_of left_by touch_of inner_between within
examples =
    record { right = refl; turned = refl; none = refl; one_less = refl; no_piece = refl; no_piece_first = refl; itself = refl; apart = refl; repeated = refl; odd = refl; no_list = refl; no_pieces = refl }
