-- What the sweep of the tables' charts visits and answers, computed on the definitions.
use mathlib.Core.Path.{◌≡◌, refl}
use mathlib.Core.Bool.{true, false}
use mathlib.Core.List.{[], ◌∷◌}
use mathlib.Core.Option.{some}
use Rattle.fractions.specs.Order.{order}
use Rattle.fractions.specs.Fraction.{ratio_order}
use Rattle.fractions.specs.Divisor.{euclid, gcd_of}
use Rattle.fractions.specs.Point.{point_order, common, lowest_of}
use Rattle.orientation.specs.Turn.{det, turn_of}
use Rattle.line_segment.specs.Piece.{point_of, end_order, first_included, second_included, join_by, join_of, piece_of}
use Rattle.line_segment.specs.Geometry.{run, rise, side}
use Rattle.line_segment.specs.Segment.{left_by, leftmost_of, right_by, rightmost_of, within, inner_between, stretch_by, stretch_of, touch_of, turn_to, opposed, astride_of, intersect_of, in_bounds, contains_of, moment, over, cramer_of, crossing_of}
use Rattle.charts.specs.Fault.{outside, eq_z}
use Rattle.charts.specs.Chart.{number_at}
use Rattle.charts.specs.Piece.{kind_of, coordinate_of, piece_at, is_upright}
use Rattle.sweep.specs.Lists.{upto, keep, any, place, sort_into, sort, same_pair, among, pairs, lesser_first, adjacent_from, adjacent}
use Rattle.sweep.specs.Chart.{meets, same}
use Rattle.sweep.specs.State.{start}
use Rattle.sweep.specs.Queue.{ends, beyond, queue, least_from, least, next}
use Rattle.sweep.specs.Step.{list, each, starts, finishes, turns, takes_part, pieces, report, drop, reported, wait, examine_free, examine, stay, enter, ranged, examined, step}
use Rattle.sweep.specs.Run.{move_to, move, onwards, taken, visited, is_none, answer_of, answer}
use Rattle.sweep.specs.Run.{run as run_of}
use Rattle.sweep.specs.Ported.{height_above, height_below, height_order, slope_order, rank_order, ported}
use Rattle.examinations.specs.Examined.{examined_at, examined_on, examined_in}
use Rattle.examinations.specs.Examined.{examined as counted}
use Rattle.starred.specs.Written.{at}
use Rattle.starred.specs.Starred.{cross}
use Rattle.starred.specs.UprightGap.{gap}

pub record Sweeps : Type 0 where
  pub cross_points : visited (ported 2 (piece_at cross)) 9 ≡ at 0 0 1 ∷ at 0 4 1 ∷ at 2 2 1 ∷ at 4 0 1 ∷ at 4 4 1 ∷ []
  pub cross_two : answer (ported 2 (piece_at cross)) 2
      ≡ record { listed = []; steps = 2; ended = false; complete = true; last = some (at 0 4 1) }
  pub cross_three : answer (ported 2 (piece_at cross)) 3
      ≡ record { listed = (0, 1) ∷ []; steps = 3; ended = false; complete = true; last = some (at 2 2 1) }
  pub gap_nine : answer (ported 3 (piece_at gap)) 9
      ≡ record { listed = (0, 1) ∷ []; steps = 7; ended = true; complete = false; last = some (at 5 6 1) }
  -- the adjacent pairs examined
  pub cross_examined : (counted (ported 2 (piece_at cross)) 2 ≡ 1) × (counted (ported 2 (piece_at cross)) 3 ≡ 2)
  pub gap_examined : counted (ported 3 (piece_at gap)) 9 ≡ 8

pub sweeps : Sweeps
unfolding order ratio_order euclid gcd_of point_order common lowest_of det turn_of point_of end_order first_included second_included join_by join_of piece_of run rise side left_by leftmost_of right_by rightmost_of within inner_between stretch_by stretch_of touch_of turn_to opposed astride_of intersect_of in_bounds contains_of moment over cramer_of crossing_of outside number_at kind_of coordinate_of piece_at upto keep any place sort_into sort same_pair among pairs lesser_first adjacent_from adjacent meets same start ends beyond queue least_from least next list each starts finishes turns takes_part pieces report drop reported wait examine_free examine stay enter ranged examined step move_to move onwards taken visited is_none answer_of answer run_of is_upright eq_z height_above height_below height_order slope_order rank_order examined_at examined_on examined_in counted
sweeps = record { cross_points = refl; cross_two = refl; cross_three = refl; gap_nine = refl; cross_examined = (refl, refl); gap_examined = refl }
