-- The points of a place, one or two: what both ends of an overlap keep, each point of its place keeps.
-- Assumes nothing.
use Rattle.std.specs.declared.cmp.Ordering.{Ordering}
use Rattle.std.specs.declared.cmp.Ordering.TheVariants.{Less, Equal, Greater}
use Rattle.fractions.specs.declared.Point.{Point}
use Rattle.line_segment.specs.declared.LineSegment.{LineSegment}
use Rattle.line_segment.specs.Piece.{point_of, end_order}
use Rattle.place.specs.declared.Where.{Where}
use Rattle.place.specs.Place.{along_by, along_of}

abbrev pub All : (Point → Type 0) → Where → Type 0
All P Where.Nothing = Unit
All P (Where.At p) = P p
All P (Where.Along p q) = P p × P q

pub along_all : (P : Point → Type 0) (s : LineSegment) → P (point_of s.min) → P (point_of s.max) → All P (along_of s)
unfolding along_of along_by
along_all P s h k = go (end_order s.min s.max)
  where
    go : (o : Ordering) → All P (along_by o (point_of s.min) (point_of s.max))
    go Less = search (h, k)
    go Equal = search (h, k)
    go Greater = search (h, k)
