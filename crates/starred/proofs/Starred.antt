-- The starred examples, checked.
use mathlib.Core.Path.{refl, ap, ap₂}
use mathlib.Core.List.{[], ◌∷◌}
use Rattle.line_segment.proofs.Examples.{examples}
use Rattle.charts.specs.Fault.{outside, off_range, eq_z, same_ends, fault_of}
use Rattle.charts.specs.Chart.{number_at, fault_at, pieces, verdict_of}
use Rattle.charts.specs.Piece.{kind_of, coordinate_of, piece_at}
use Rattle.charts.specs.Answer.{room, listing_of}
use Rattle.charts.specs.Pair.{pair_verdict_of, meeting_of}
use Rattle.chart_file.specs.Groups.{value, marked, groups_at}
use Rattle.chart_file.specs.Coordinate.{signed_of}
use Rattle.chart_file.specs.Reading.{limited, count_at, counted, kind_at, turned, coordinate_at, stands_at, joined, more, numbers, with_length, piece, ended, reading_of, lent_reading, answer_of}
use Rattle.chart_file.specs.Reading.{pieces as pieces_in}
use Rattle.chart_file.proofs.Examples.{examples as files}
use Rattle.fractions.specs.Order.{order}
use Rattle.fractions.specs.Fraction.{ratio_order}
use Rattle.fractions.specs.Point.{point_order}
use Rattle.line_segment.specs.Piece.{point_of, end_order}
use Rattle.place.specs.Place.{along_by, along_of, where_by, where_of}
use Rattle.naive.specs.Pairs.{bytes, over}
use Rattle.sweep.specs.Ported.{ported}
use Rattle.sweep.specs.Run.{Answer}
use Rattle.bentley_ottmann.specs.Swept.{saying, swept_by, listed_over, sweep_of, lent_after}
use Rattle.starred.specs.Written.{met}
use Rattle.starred.specs.Starred.{cross, Starred}
use Rattle.starred.proofs.Sweeps.{sweeps}

pub starred : Starred
unfolding outside off_range eq_z same_ends fault_of number_at fault_at pieces verdict_of kind_of coordinate_of piece_at room listing_of pair_verdict_of meeting_of value marked groups_at signed_of limited count_at counted kind_at turned coordinate_at stands_at joined more numbers with_length piece ended reading_of lent_reading answer_of pieces_in point_of end_order order ratio_order point_order along_by along_of where_by where_of bytes over swept_by listed_over sweep_of lent_after
starred = record {
  points = sweeps.cross_points;
  two_steps = ap₂ (saying 2 (piece_at cross)) sweeps.cross_two sweeps.cross_examined.0;
  two_list = λ u v. ap (λ (a : Answer (ported 2 (piece_at cross))). over (bytes a.listed) (u ∷ v ∷ [])) sweeps.cross_two;
  three_steps = ap₂ (saying 2 (piece_at cross)) sweeps.cross_three sweeps.cross_examined.1;
  three_list = λ u v. ap (λ (a : Answer (ported 2 (piece_at cross))). over (bytes a.listed) (u ∷ v ∷ [])) sweeps.cross_three;
  thirds_cross = ap met examples.thirds;
  thirds_at = ap₂ where_by examples.thirds examples.thirds_at;
  one_point = ap met examples.one_point;
  one_point_at = ap₂ where_by examples.one_point refl;
  no_point = ap met examples.no_point;
  touches = ap met examples.touch;
  touches_at = ap₂ where_by examples.touch examples.touch_at;
  no_touch = ap met examples.no_touch;
  too_far = refl;
  padded = refl;
  unended = refl;
  empty = ap answer_of files.empty;
  no_pieces = ap answer_of files.no_pieces;
}
