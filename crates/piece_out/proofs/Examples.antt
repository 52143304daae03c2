-- Why the ported mode needs a chart with no upright piece: of the upright gap, piece 1 hides a meeting of the other two.
-- Assumes nothing.
use mathlib.Core.Path.{◌≡◌, refl}
use mathlib.Core.Bool.{true}
use mathlib.Core.List.{List, [], ◌∷◌}
use lib.IntN.{ℤ, pos, negsuc}
use Rattle.fractions.specs.Order.{order}
use Rattle.fractions.specs.Fraction.{ratio_order}
use Rattle.fractions.specs.Divisor.{euclid, gcd_of}
use Rattle.fractions.specs.Point.{point_order, common, lowest_of}
use Rattle.orientation.specs.Turn.{det, turn_of}
use Rattle.line_segment.specs.Piece.{point_of, end_order, first_included, second_included, join_by, join_of, piece_of}
use Rattle.line_segment.specs.Geometry.{run, rise, side}
use Rattle.line_segment.specs.Segment.{left_by, leftmost_of, right_by, rightmost_of, within, inner_between, stretch_by, stretch_of, touch_of, turn_to, opposed, astride_of, intersect_of, in_bounds, contains_of, moment, over, cramer_of, crossing_of}
use Rattle.charts.specs.Fault.{outside, eq_z}
use Rattle.charts.specs.Chart.{number_at}
use Rattle.charts.specs.Piece.{kind_of, coordinate_of, piece_at, is_upright}
use Rattle.sweep.specs.Lists.{upto, keep, any, place, sort_into, sort, same_pair, among, pairs, lesser_first, adjacent_from, adjacent}
use Rattle.sweep.specs.Chart.{meets, same}
use Rattle.sweep.specs.State.{start}
use Rattle.sweep.specs.Queue.{ends, beyond, queue, least_from, least, next}
use Rattle.sweep.specs.Step.{list, each, starts, finishes, turns, takes_part, pieces, report, drop, reported, wait, examine_free, examine, stay, enter, ranged, examined, step}
use Rattle.sweep.specs.Run.{move_to, move, onwards, taken, visited, is_none, answer_of, answer}
use Rattle.sweep.specs.Run.{run as run_of}
use Rattle.sweep.specs.Ported.{height_above, height_below, height_order, slope_order, rank_order, ported}
use Rattle.piece_out.specs.Cut.{cut_out, lowered, of_piece, without}

-- "piece 0 (0,0)-(0,10), piece 1 (-5,3)-(5,3), piece 2 (-5,6)-(5,6), kind 3"
abbrev gap : List ℤ
gap = pos 3 ∷ pos 0 ∷ pos 0 ∷ pos 0 ∷ pos 10 ∷ pos 3 ∷ negsuc 4 ∷ pos 3 ∷ pos 5 ∷ pos 3 ∷ pos 3 ∷ negsuc 4 ∷ pos 6 ∷ pos 5 ∷ pos 6 ∷ []

pub record Hides : Type 0 where
  -- both run to their end
  pub whole_ended : (answer (ported 3 (piece_at gap)) 9).ended ≡ true
  pub cut_ended : (answer (ported 2 (piece_at (cut_out 1 gap))) 9).ended ≡ true
  -- without piece 1 the pair of the other two is listed, and with it it is not
  pub cut_lists : (answer (ported 2 (piece_at (cut_out 1 gap))) 9).listed ≡ (0, 1) ∷ []
  pub whole_leaves : without 1 (answer (ported 3 (piece_at gap)) 9).listed ≡ []

pub hides : Hides
unfolding order ratio_order euclid gcd_of point_order common lowest_of det turn_of point_of end_order first_included second_included join_by join_of piece_of run rise side left_by leftmost_of right_by rightmost_of within inner_between stretch_by stretch_of touch_of turn_to opposed astride_of intersect_of in_bounds contains_of moment over cramer_of crossing_of outside number_at kind_of coordinate_of piece_at upto keep any place sort_into sort same_pair among pairs lesser_first adjacent_from adjacent meets same start ends beyond queue least_from least next list each starts finishes turns takes_part pieces report drop reported wait examine_free examine stay enter ranged examined step move_to move onwards taken visited is_none answer_of answer run_of is_upright eq_z height_above height_below height_order slope_order rank_order cut_out lowered of_piece without
hides = record { whole_ended = refl; cut_ended = refl; cut_lists = refl; whole_leaves = refl }
