-- The charts of docs/CHART.md, listed by the definitions.
use mathlib.Core.Path.{◌≡◌, refl}
use mathlib.Core.List.{List, [], ◌∷◌}
use lib.IntN.{ℤ, pos, negsuc}
use Rattle.orientation.specs.Turn.{det, turn_of}
use Rattle.fractions.specs.Order.{order}
use Rattle.fractions.specs.Fraction.{ratio_order}
use Rattle.fractions.specs.Point.{point_order}
use Rattle.line_segment.specs.Piece.{point_of, end_order, first_included, second_included, join_by, join_of, piece_of}
use Rattle.line_segment.specs.Segment.{left_by, leftmost_of, right_by, rightmost_of, within, inner_between, stretch_by, stretch_of, touch_of, turn_to, opposed, astride_of, intersect_of}
use Rattle.charts.specs.Fault.{outside, off_range, eq_z, same_ends, fault_of}
use Rattle.charts.specs.Chart.{number_at, fault_at, pieces, verdict_of}
use Rattle.charts.specs.Piece.{kind_of, coordinate_of, piece_at}
use Rattle.charts.specs.Answer.{room, listing_of}
use Rattle.naive.specs.Pairs.{row, rows, bytes, over}
use Rattle.naive.specs.AllPairs.{meets, pairs_of, all_pairs_of, lent_after}

-- "Upright gap: piece 0 (0,0)-(0,10), piece 1 (-5,3)-(5,3), piece 2 (-5,6)-(5,6), kind 3."
abbrev gap : List ℤ
gap = pos 3 ∷ pos 0 ∷ pos 0 ∷ pos 0 ∷ pos 10 ∷ pos 3 ∷ negsuc 4 ∷ pos 3 ∷ pos 5 ∷ pos 3 ∷ pos 3 ∷ negsuc 4 ∷ pos 6 ∷ pos 5 ∷ pos 6 ∷ []

-- "(0,0)-(4,4) and (0,4)-(4,0), kind 3"
abbrev cross : List ℤ
cross = pos 3 ∷ pos 0 ∷ pos 0 ∷ pos 4 ∷ pos 4 ∷ pos 3 ∷ pos 0 ∷ pos 4 ∷ pos 4 ∷ pos 0 ∷ []

pub record Examples : Type 0 where
  -- "All pairs: (1,0), (2,0)."
  pub gap_pairs : pairs_of gap 3 ≡ (1, 0) ∷ (2, 0) ∷ []
  pub gap_answer : all_pairs_of gap 6 ≡ record { number = 0; place = 0; count = 2 }
  pub gap_bytes : lent_after gap (9 ∷ 9 ∷ 9 ∷ 9 ∷ 9 ∷ 9 ∷ []) ≡ 1 ∷ 0 ∷ 2 ∷ 0 ∷ 9 ∷ 9 ∷ []
  pub cross_bytes : lent_after cross (7 ∷ 7 ∷ 7 ∷ []) ≡ 1 ∷ 0 ∷ 7 ∷ []
  pub cross_refused : all_pairs_of cross 1 ≡ record { number = 8; place = 0; count = 0 }
  pub cross_kept : lent_after cross (7 ∷ []) ≡ 7 ∷ []
  pub no_pieces : all_pairs_of [] 0 ≡ record { number = 0; place = 0; count = 0 }

pub examples : Examples
unfolding all_pairs_of lent_after pairs_of meets rows row bytes over listing_of room verdict_of pieces fault_at number_at fault_of outside off_range same_ends eq_z piece_at kind_of coordinate_of piece_of first_included second_included join_of join_by end_order point_of point_order ratio_order order intersect_of astride_of opposed turn_to turn_of det stretch_of stretch_by rightmost_of right_by leftmost_of left_by touch_of inner_between within
examples =
    record { gap_pairs = refl; gap_answer = refl; gap_bytes = refl; cross_bytes = refl; cross_refused = refl; cross_kept = refl; no_pieces = refl }
