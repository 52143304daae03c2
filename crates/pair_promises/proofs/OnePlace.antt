-- The two crossings of specs/OnePlace, computed.
-- Assumes nothing.
use mathlib.Core.Path.{refl}
use lib.Ieee.{round, to_bits}
use Rattle.orientation.specs.Turn.{det, turn_of}
use Rattle.fractions.specs.Order.{order}
use Rattle.fractions.specs.Fraction.{ratio_order}
use Rattle.fractions.specs.Divisor.{euclid, gcd_of}
use Rattle.fractions.specs.Point.{point_order, common, lowest_of}
use Rattle.line_segment.specs.Piece.{point_of, end_order, first_included, second_included, join_by, join_of, piece_of}
use Rattle.line_segment.specs.Geometry.{run, rise}
use Rattle.line_segment.specs.Segment.{turn_to, opposed, astride_of, intersect_of, moment, over, cramer_of, crossing_of}
use Rattle.place.specs.Binary64.{nearest}
use Rattle.place.specs.Place.{where_by, where_of, nearest_point, in_binary64, place_of}
use Rattle.pair_promises.specs.OnePlace.{OnePlace}

pub one_place : OnePlace
unfolding to_bits place_of in_binary64 where_of where_by nearest_point nearest round crossing_of cramer_of over moment run rise lowest_of common gcd_of euclid intersect_of astride_of opposed turn_to turn_of det piece_of join_of join_by first_included second_included end_order point_of point_order ratio_order order
one_place = record { sooner_at = refl; later_at = refl; two_points = refl }
