-- The upright gap with nothing lost, and the empty chart, computed on the definitions.
use mathlib.Core.Path.{◌≡◌, refl}
use mathlib.Core.Bool.{true, cond}
use mathlib.Core.List.{[], ◌∷◌}
use mathlib.Core.Option.{none}
use Prim.Native.Nat.{ℕ}
use lib.Dec.{eqb}
use lib.IntN.{pos, negsuc}
use Rattle.fractions.specs.Order.{order}
use Rattle.fractions.specs.Fraction.{ratio_order}
use Rattle.fractions.specs.Divisor.{euclid, gcd_of}
use Rattle.fractions.specs.Point.{point_order, common, lowest_of}
use Rattle.orientation.specs.Turn.{det, turn_of}
use Rattle.line_segment.specs.declared.LineSegment.{LineSegment}
use Rattle.line_segment.specs.Piece.{point_of, end_order, first_included, second_included, join_by, join_of, piece_of}
use Rattle.line_segment.specs.Geometry.{run, rise, side}
use Rattle.line_segment.specs.Segment.{left_by, leftmost_of, right_by, rightmost_of, within, inner_between, stretch_by, stretch_of, touch_of, turn_to, opposed, astride_of, intersect_of, in_bounds, contains_of, moment, over, cramer_of, crossing_of}
use Rattle.charts.specs.Fault.{eq_z}
use Rattle.charts.specs.Piece.{is_upright}
use Rattle.sweep.specs.Lists.{upto, keep, any, place, sort_into, sort, same_pair, among, pairs, lesser_first, adjacent_from, adjacent}
use Rattle.sweep.specs.Chart.{meets, same}
use Rattle.sweep.specs.State.{start}
use Rattle.sweep.specs.Queue.{ends, beyond, queue, least_from, least, next}
use Rattle.sweep.specs.Step.{list, each, starts, finishes, turns, takes_part, pieces, report, drop, reported, wait, examine_free, examine, stay, enter, ranged, examined, step}
use Rattle.sweep.specs.Run.{move_to, move, onwards, is_none, answer_of, answer}
use Rattle.sweep.specs.Run.{run as run_of}
use Rattle.sweep.specs.Ported.{height_above, height_below, height_order, slope_order, rank_order, ported}
use Rattle.sweep_geometry.specs.Full.{full_above, full_below, full_height_order, full_order, full}

-- "piece 0 (0,0)-(0,10), piece 1 (-5,3)-(5,3), piece 2 (-5,6)-(5,6), kind 3"
unfoldable pub gap : ℕ → LineSegment
gap i =
    cond (eqb i 0) (piece_of 3 (pos 0) (pos 0) (pos 0) (pos 10))
    (cond (eqb i 1) (piece_of 3 (negsuc 4) (pos 3) (pos 5) (pos 3)) (piece_of 3 (negsuc 4) (pos 6) (pos 5) (pos 6)))

abbrev Table : Type 0
Table =
    -- an upright piece at the height of the point visited: nothing is lost
    ((answer (full 3 gap) 9).listed ≡ (0, 1) ∷ (0, 2) ∷ [])
    -- "An empty chart has ended at zero steps."
    × (answer (ported 0 gap) 9 ≡ record { listed = []; steps = 0; ended = true; complete = true; last = none })

table : Table
unfolding gap order ratio_order euclid gcd_of point_order common lowest_of det turn_of point_of end_order first_included second_included join_by join_of piece_of run rise side left_by leftmost_of right_by rightmost_of within inner_between stretch_by stretch_of touch_of turn_to opposed astride_of intersect_of in_bounds contains_of moment over cramer_of crossing_of upto keep any place sort_into sort same_pair among pairs lesser_first adjacent_from adjacent meets same start ends beyond queue least_from least next list each starts finishes turns takes_part pieces report drop reported wait examine_free examine stay enter ranged examined step move_to move onwards is_none answer_of answer run_of is_upright eq_z height_above height_below height_order slope_order rank_order full_above full_below full_height_order full_order
table = (refl, refl)
