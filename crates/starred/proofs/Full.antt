-- What the new mode answers of the upright gap, computed on the definitions.
use mathlib.Core.Path.{◌≡◌, refl}
use mathlib.Core.Bool.{true}
use mathlib.Core.List.{[], ◌∷◌}
use mathlib.Core.Option.{some}
use Rattle.fractions.specs.Order.{order}
use Rattle.fractions.specs.Fraction.{ratio_order}
use Rattle.fractions.specs.Divisor.{euclid, gcd_of}
use Rattle.fractions.specs.Point.{point_order, common, lowest_of}
use Rattle.orientation.specs.Turn.{det, turn_of}
use Rattle.line_segment.specs.Piece.{point_of, end_order, first_included, second_included, join_by, join_of, piece_of}
use Rattle.line_segment.specs.Geometry.{run, rise, side}
use Rattle.line_segment.specs.Segment.{left_by, leftmost_of, right_by, rightmost_of, within, inner_between, stretch_by, stretch_of, touch_of, turn_to, opposed, astride_of, intersect_of, in_bounds, contains_of, moment, over, cramer_of, crossing_of}
use Rattle.charts.specs.Fault.{outside, eq_z}
use Rattle.charts.specs.Chart.{number_at}
use Rattle.charts.specs.Piece.{kind_of, coordinate_of, piece_at, is_upright}
use Rattle.sweep.specs.Lists.{upto, keep, any, place, sort_into, sort, same_pair, among, pairs, lesser_first, adjacent_from, adjacent}
use Rattle.sweep.specs.Chart.{meets, same}
use Rattle.sweep.specs.Queue.{ends, beyond, least_from, least}
use Rattle.sweep.specs.Step.{each, starts, finishes}
use Rattle.sweep.specs.Run.{is_none}
use Rattle.sweep.specs.Sought.{is_crossing}
use Rattle.sweep.specs.Ported.{height_above, height_below, slope_order}
use Rattle.sweep_geometry.specs.Full.{full_above, full_below, full_height_order}
use Rattle.full_steps.specs.Steps.{start, crossings, queue, next, takes_part, pieces, report, reported, ranged, step, move_to, move, answer_of, answer}
use Rattle.full_steps.specs.Steps.{run as run_of}
use Rattle.full_order.specs.Finer.{overhead, slant, slant_order, finer_order, finer}
use Rattle.starred.specs.Written.{at}
use Rattle.starred.specs.UprightGap.{gap}

pub gap_nine : answer (finer 3 (piece_at gap)) 9
    ≡ record { listed = (0, 1) ∷ (0, 2) ∷ []; steps = 8; ended = true; complete = true; last = some (at 5 6 1) }
unfolding order ratio_order euclid gcd_of point_order common lowest_of det turn_of point_of end_order first_included second_included join_by join_of piece_of run rise side left_by leftmost_of right_by rightmost_of within inner_between stretch_by stretch_of touch_of turn_to opposed astride_of intersect_of in_bounds contains_of moment over cramer_of crossing_of outside number_at kind_of coordinate_of piece_at upto keep any place sort_into sort same_pair among pairs lesser_first adjacent_from adjacent meets same ends beyond least_from least each starts finishes is_none is_crossing is_upright eq_z height_above height_below slope_order full_above full_below full_height_order start crossings queue next takes_part pieces report reported ranged step move_to move answer_of answer run_of overhead slant slant_order finer_order
gap_nine = refl
