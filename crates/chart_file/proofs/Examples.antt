-- The table of examples, by computation.
use mathlib.Core.Path.{refl}
use Rattle.charts.specs.Fault.{outside, off_range, eq_z, same_ends, fault_of}
use Rattle.charts.specs.Chart.{number_at, fault_at}
use Rattle.chart_file.specs.Groups.{value, marked, groups_at, spelled}
use Rattle.chart_file.specs.Coordinate.{stored, signed_of}
use Rattle.chart_file.specs.Format.{bytes_of}
use Rattle.chart_file.specs.Reading.{limited, count_at, counted, kind_at, turned, coordinate_at, stands_at, joined, more, numbers, with_length, piece, pieces, ended, reading_of}
use Rattle.chart_file.specs.Examples.{Examples}

pub examples : Examples
unfolding outside off_range eq_z same_ends fault_of number_at fault_at value marked groups_at spelled stored signed_of bytes_of limited count_at counted kind_at turned coordinate_at stands_at joined more numbers with_length piece pieces ended reading_of
examples = record {
  too_far = refl;
  padded = refl;
  unended = refl;
  empty = refl;
  no_pieces = refl;
  most = refl;
  least = refl;
  sixty_four = refl;
  minus_one = refl;
  most_read = refl;
  least_read = refl;
  sixty_four_read = refl;
  minus_one_read = refl;
  crossing = refl;
  third_marked = refl;
  no_length = refl;
  count_200 = refl;
  count_201 = refl;
  count_127 = refl;
  count_128 = refl;
  count_cut = refl;
  count_padded = refl;
  count_unended = refl;
  count_16384 = refl;
}
