-- Listings of the charts of docs/CHART.md, and of a refused file, computed.
-- Assumes nothing.
use mathlib.Core.Path.{◌≡◌, refl, ap, ◌∙◌}
use mathlib.Core.Bool.{true}
use mathlib.Core.List.{List, [], ◌∷◌}
use Prim.Native.Nat.{ℕ, ◌+◌}
use lib.IntN.{ℤ, pos, negsuc}
use Rattle.fractions.specs.Order.{order}
use Rattle.fractions.specs.Fraction.{ratio_order}
use Rattle.fractions.specs.Divisor.{euclid, gcd_of}
use Rattle.fractions.specs.Point.{point_order, common, lowest_of}
use Rattle.orientation.specs.Turn.{det, turn_of}
use Rattle.line_segment.specs.Piece.{point_of, end_order, first_included, second_included, join_by, join_of, piece_of}
use Rattle.line_segment.specs.Geometry.{run, rise, side}
use Rattle.line_segment.specs.Segment.{left_by, leftmost_of, right_by, rightmost_of, within, inner_between, stretch_by, stretch_of, touch_of, turn_to, opposed, astride_of, intersect_of, in_bounds, contains_of, moment, over, cramer_of, crossing_of}
use Rattle.charts.specs.Fault.{outside, eq_z}
use Rattle.charts.specs.Chart.{number_at}
use Rattle.charts.specs.Piece.{kind_of, coordinate_of, piece_at, is_upright}
use Rattle.chart_file.proofs.Examples.{examples}
use Rattle.place.specs.Place.{along_by, along_of, where_by, where_of}
use Rattle.sweep.specs.Lists.{upto, keep, any, place, sort_into, sort, same_pair, among, pairs, lesser_first, adjacent_from, adjacent}
use Rattle.sweep.specs.Chart.{meets, same}
use Rattle.sweep.specs.Queue.{ends, beyond, least_from, least}
use Rattle.sweep.specs.Step.{each, starts, finishes}
use Rattle.sweep.specs.Run.{Answer, is_none}
use Rattle.sweep.specs.Sought.{is_crossing}
use Rattle.sweep.specs.Ported.{height_above, height_below, slope_order}
use Rattle.sweep_geometry.specs.Full.{full_above, full_below, full_height_order}
use Rattle.full_steps.specs.Steps.{start, crossings, queue, next, takes_part, pieces, report, reported, ranged, step, move_to, move, answer_of, answer}
use Rattle.full_steps.specs.Steps.{run as run_of}
use Rattle.full_order.specs.Finer.{overhead, slant, slant_order, finer_order, finer}
use Rattle.decimals.specs.Text.{ascii}
use Rattle.decimals.specs.Decimal.{digits, decimal, signed_decimal}
use Rattle.units.specs.Units.{low_of, high_of}
use Rattle.listing_lines.specs.Lines.{count_line, complete_line, number_text, point_text, end_text, place_text, pair_line, pair_lines}
use Rattle.listing.specs.Listing.{chart_lines, largest, chart_text, text_of, listing_of}
use Rattle.listing.proofs.Settled.{settled}

-- the text at a budget of a steps
text_at : List ℤ → ℕ → ℕ → List ℕ
text_at list n a = let swept = answer (finer n (piece_at list)) a in chart_lines list n swept.complete swept.listed swept.steps

-- where so many are enough, it is the chart's
enough : (list : List ℤ) (n a b : ℕ) → largest ≡ a + b → (answer (finer n (piece_at list)) a).ended ≡ true → chart_text list n ≡ text_at list n a
unfolding chart_text text_at
enough list n a b e h =
    let C = finer n (piece_at list) in
    ap (λ (swept : Answer C). chart_lines list n swept.complete swept.listed swept.steps) (ap (answer C) e ∙ settled C a b h)

-- "(0,0)-(4,4) and (0,4)-(4,0), kind 3"
two : List ℤ
two = pos 3 ∷ pos 0 ∷ pos 0 ∷ pos 4 ∷ pos 4 ∷ pos 3 ∷ pos 0 ∷ pos 4 ∷ pos 4 ∷ pos 0 ∷ []

-- "piece 0 (0,0)-(0,10), piece 1 (-5,3)-(5,3), piece 2 (-5,6)-(5,6), kind 3"
gap : List ℤ
gap = pos 3 ∷ pos 0 ∷ pos 0 ∷ pos 0 ∷ pos 10 ∷ pos 3 ∷ negsuc 4 ∷ pos 3 ∷ pos 5 ∷ pos 3 ∷ pos 3 ∷ negsuc 4 ∷ pos 6 ∷ pos 5 ∷ pos 6 ∷ []

-- "(0,0)-(2,0) and (2,0)-(5,0), kind 3"
touch : List ℤ
touch = pos 3 ∷ pos 0 ∷ pos 0 ∷ pos 2 ∷ pos 0 ∷ pos 3 ∷ pos 2 ∷ pos 0 ∷ pos 5 ∷ pos 0 ∷ []

record Runs : Type 0 where
  two_ends : (answer (finer 2 (piece_at two)) 5).ended ≡ true
  two_text : text_at two 2 5 ≡ ascii "chart 2\ncomplete yes\npair 0 1 at 2 2 2 2\nsteps 5\n"
  gap_ends : (answer (finer 3 (piece_at gap)) 8).ended ≡ true
  gap_text : text_at gap 3 8 ≡ ascii "chart 3\ncomplete yes\npair 0 1 at 0 0 3 3\npair 0 2 at 0 0 6 6\nsteps 8\n"
  touch_ends : (answer (finer 2 (piece_at touch)) 3).ended ≡ true
  touch_text : text_at touch 2 3 ≡ ascii "chart 2\ncomplete yes\npair 0 1 at 2 2 0 0\nsteps 3\n"
  none_ends : (answer (finer 0 (piece_at [])) 0).ended ≡ true
  none_text : text_at [] 0 0 ≡ ascii "chart 0\ncomplete yes\nsteps 0\n"
  refused : count_line (ascii "refused ") 1 ≡ ascii "refused 1\n"

runs : Runs
unfolding two gap touch text_at order ratio_order euclid gcd_of point_order common lowest_of det turn_of point_of end_order first_included second_included join_by join_of piece_of run rise side left_by leftmost_of right_by rightmost_of within inner_between stretch_by stretch_of touch_of turn_to opposed astride_of intersect_of in_bounds contains_of moment over cramer_of crossing_of outside number_at kind_of coordinate_of piece_at along_by along_of where_by where_of upto keep any place sort_into sort same_pair among pairs lesser_first adjacent_from adjacent meets same ends beyond least_from least each starts finishes is_none is_crossing is_upright eq_z height_above height_below slope_order full_above full_below full_height_order start crossings queue next takes_part pieces report reported ranged step move_to move answer_of answer run_of overhead slant slant_order finer_order ascii digits decimal signed_decimal low_of high_of count_line complete_line number_text point_text end_text place_text pair_line pair_lines chart_lines
runs = record { two_ends = refl; two_text = refl; gap_ends = refl; gap_text = refl; touch_ends = refl; touch_text = refl; none_ends = refl; none_text = refl; refused = refl }

record Table : Type 0 where
  -- "For bytes 02 03 00 00 08 08 03 00 08 08 00 it prints"
  crossing : listing_of (0x02 ∷ 0x03 ∷ 0x00 ∷ 0x00 ∷ 0x08 ∷ 0x08 ∷ 0x03 ∷ 0x00 ∷ 0x08 ∷ 0x08 ∷ 0x00 ∷ []) ≡ ascii "chart 2\ncomplete yes\npair 0 1 at 2 2 2 2\nsteps 5\n"
  -- "Upright gap"
  upright_gap : chart_text gap 3 ≡ ascii "chart 3\ncomplete yes\npair 0 1 at 0 0 3 3\npair 0 2 at 0 0 6 6\nsteps 8\n"
  -- "One shared point is a point."
  one_point : chart_text touch 2 ≡ ascii "chart 2\ncomplete yes\npair 0 1 at 2 2 0 0\nsteps 3\n"
  -- "Empty file: 1. File 00: zero pieces."
  empty : listing_of [] ≡ ascii "refused 1\n"
  no_pieces : listing_of (0x00 ∷ []) ≡ ascii "chart 0\ncomplete yes\nsteps 0\n"

table : Table
unfolding two text_of listing_of
table = record {
  crossing = ap text_of examples.crossing ∙ enough two 2 5 4294967290 refl runs.two_ends ∙ runs.two_text;
  upright_gap = enough gap 3 8 4294967287 refl runs.gap_ends ∙ runs.gap_text;
  one_point = enough touch 2 3 4294967292 refl runs.touch_ends ∙ runs.touch_text;
  empty = ap text_of examples.empty ∙ runs.refused;
  no_pieces = ap text_of examples.no_pieces ∙ enough [] 0 0 4294967295 refl runs.none_ends ∙ runs.none_text;
}
