-- The upright gap in the new mode, and pieces on which rising slope would exchange too early, computed on the definitions.
use mathlib.Core.Path.{◌≡◌, refl}
use mathlib.Core.Bool.{true, cond}
use mathlib.Core.List.{[], ◌∷◌}
use mathlib.Core.Option.{some}
use Prim.Native.Nat.{ℕ}
use lib.Dec.{eqb}
use lib.IntN.{pos, negsuc}
use Rattle.fractions.specs.Order.{order}
use Rattle.fractions.specs.Fraction.{ratio_order}
use Rattle.fractions.specs.Divisor.{euclid, gcd_of}
use Rattle.fractions.specs.Point.{point_order, common, lowest_of, whole_of}
use Rattle.std.specs.declared.cmp.Ordering.TheVariants.{Less, Greater}
use Rattle.orientation.specs.Turn.{det, turn_of}
use Rattle.line_segment.specs.declared.LineSegment.{LineSegment}
use Rattle.line_segment.specs.Piece.{point_of, end_order, first_included, second_included, join_by, join_of, piece_of}
use Rattle.line_segment.specs.Geometry.{run, rise, side}
use Rattle.line_segment.specs.Segment.{left_by, leftmost_of, right_by, rightmost_of, within, inner_between, stretch_by, stretch_of, touch_of, turn_to, opposed, astride_of, intersect_of, in_bounds, contains_of, moment, over, cramer_of, crossing_of}
use Rattle.charts.specs.Fault.{eq_z}
use Rattle.charts.specs.Piece.{is_upright}
use Rattle.sweep.specs.Lists.{upto, keep, any, place, sort_into, sort, same_pair, among, pairs, lesser_first, adjacent_from, adjacent}
use Rattle.sweep.specs.Chart.{meets, same}
use Rattle.sweep.specs.Queue.{ends, beyond, least_from, least}
use Rattle.sweep.specs.Step.{each, starts, finishes}
use Rattle.sweep.specs.Run.{is_none}
use Rattle.sweep.specs.Sought.{is_crossing}
use Rattle.sweep.specs.Ported.{height_above, height_below, slope_order}
use Rattle.sweep_geometry.specs.Full.{full_above, full_below, full_height_order, full_order}
use Rattle.sweep_geometry.proofs.Examples.{gap}
use Rattle.full_steps.specs.Steps.{start, crossings, queue, next, takes_part, pieces, report, reported, ranged, step, move_to, move, answer_of, answer}
use Rattle.full_steps.specs.Steps.{run as run_of}
use Rattle.full_order.specs.Finer.{overhead, slant, slant_order, finer_order, finer}

-- two pieces that end in (1, 0): (-2, -1)-(1, 0) below (-3, 0)-(1, 0)
wedge : ℕ → LineSegment
wedge i = cond (eqb i 0) (piece_of 3 (negsuc 1) (negsuc 0) (pos 1) (pos 0)) (piece_of 3 (negsuc 2) (pos 0) (pos 1) (pos 0))

abbrev Table : Type 0
Table =
    -- the upright gap: nothing is lost, and the answer is complete
    (answer (finer 3 gap) 9 ≡ record { listed = (0, 1) ∷ (0, 2) ∷ []; steps = 8; ended = true; complete = true; last = some (whole_of (pos 5) (pos 6)) })
    -- straight below the common end, at (1, -2), they stand as before; by rising slope they would be exchanged already
    × (finer_order wedge (whole_of (pos 0) (negsuc 0)) 0 1 ≡ Less)
    × (finer_order wedge (whole_of (pos 1) (negsuc 1)) 0 1 ≡ Less)
    × (full_order wedge (whole_of (pos 1) (negsuc 1)) 0 1 ≡ Greater)

table : Table
unfolding gap wedge order ratio_order euclid gcd_of point_order common lowest_of det turn_of point_of end_order first_included second_included join_by join_of piece_of run rise side left_by leftmost_of right_by rightmost_of within inner_between stretch_by stretch_of touch_of turn_to opposed astride_of intersect_of in_bounds contains_of moment over cramer_of crossing_of upto keep any place sort_into sort same_pair among pairs lesser_first adjacent_from adjacent meets same ends beyond least_from least each starts finishes is_none is_crossing is_upright eq_z height_above height_below slope_order full_above full_below full_height_order full_order start crossings queue next takes_part pieces report reported ranged step move_to move answer_of answer run_of overhead slant slant_order finer_order
table = (refl, refl, refl, refl)
