-- A day of an open chart, worked out by the definitions.
use mathlib.Core.Path.{◌≡◌, refl}
use mathlib.Core.Bool.{false}
use mathlib.Core.List.{List, [], ◌∷◌, ◌++◌}
use lib.IntN.{ℤ, pos, negsuc}
use Rattle.orientation.specs.Turn.{det, turn_of}
use Rattle.fractions.specs.Order.{order}
use Rattle.fractions.specs.Fraction.{ratio_order}
use Rattle.fractions.specs.Point.{point_order}
use Rattle.line_segment.specs.Piece.{point_of, end_order, first_included, second_included, join_by, join_of, piece_of}
use Rattle.line_segment.specs.Segment.{left_by, leftmost_of, right_by, rightmost_of, within, inner_between, stretch_by, stretch_of, touch_of, turn_to, opposed, astride_of, intersect_of}
use Rattle.charts.specs.Fault.{outside, off_range, eq_z, same_ends, fault_of}
use Rattle.charts.specs.Chart.{number_at, fault_at}
use Rattle.charts.specs.Piece.{kind_of, coordinate_of, piece_at}
use Rattle.naive.specs.Pairs.{row, rows}
use Rattle.naive.specs.AllPairs.{meets}
use Rattle.open_chart.specs.Memory.{five, vacant, is_used, used_below, lowest_free, written}
use Rattle.open_chart.specs.Listing.{meets_on}
use Rattle.open_chart.specs.Model.{free, lowest, changed_all, Add, Drop, afresh}

-- five places: the upright gap of docs/CHART.md with a free place between its pieces, and numbers that are no piece
abbrev day : List ℤ
day =
    five (pos 3) (pos 0) (pos 0) (pos 0) (pos 10) ++ vacant ++ five (pos 3) (negsuc 4) (pos 3) (pos 5) (pos 3)
    ++ five (pos 4) (pos 0) (pos 0) (pos 1) (pos 1) ++ five (pos 3) (negsuc 4) (pos 6) (pos 5) (pos 6)

pub record Examples : Type 0 where
  pub used : used_below day 5 ≡ 0 ∷ 2 ∷ 4 ∷ []
  pub lowest_free' : lowest_free day 5 ≡ 1
  pub pairs : rows (meets_on day) 5 ≡ (2, 0) ∷ (4, 0) ∷ []
  -- the place between is taken by one that meets the first
  pub added : rows (meets_on (written day 1 (five (pos 3) (negsuc 4) (pos 1) (pos 5) (pos 2)))) 5 ≡ (1, 0) ∷ (2, 0) ∷ (4, 0) ∷ []
  pub then_next : lowest_free (written day 1 (five (pos 3) (negsuc 4) (pos 1) (pos 5) (pos 2))) 5 ≡ 3
  -- the first is dropped, and nothing meets
  pub dropped : rows (meets_on (written day 0 vacant)) 5 ≡ []
  -- past the end of memory every place is free
  pub past_the_end : is_used day 5 ≡ false
  -- and in mind: added, added, dropped, added again
  pub in_mind : lowest (changed_all (free ∷ free ∷ free ∷ []) (Add (pos 3) (pos 0) (pos 0) (pos 1) (pos 1) ∷ Add (pos 3) (pos 0) (pos 1) (pos 1) (pos 0) ∷ Drop 0 ∷ [])) ≡ 0
  pub in_mind_pairs : afresh (changed_all (free ∷ free ∷ free ∷ []) (Add (pos 3) (pos 0) (pos 0) (pos 1) (pos 1) ∷ Add (pos 4) (pos 0) (pos 1) (pos 1) (pos 0) ∷ Add (pos 3) (pos 0) (pos 1) (pos 1) (pos 0) ∷ [])) ≡ (1, 0) ∷ []

pub examples : Examples
unfolding used_below lowest_free lowest is_used written meets_on meets rows row fault_at number_at fault_of outside off_range same_ends eq_z piece_at kind_of coordinate_of piece_of first_included second_included join_of join_by end_order point_of point_order ratio_order order intersect_of astride_of opposed turn_to turn_of det stretch_of stretch_by rightmost_of right_by leftmost_of left_by touch_of inner_between within
examples =
    record { used = refl; lowest_free' = refl; pairs = refl; added = refl; then_next = refl; dropped = refl; past_the_end = refl; in_mind = refl; in_mind_pairs = refl }
