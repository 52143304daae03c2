-- The place of a meeting: first exactly, from the segment test and Cramer's point alone, and then in binary64.
use Rattle.std.specs.Prelude.{List, [], ◌∷◌, ◌<◌, ◌≤◌, ◌^◌, nat_abs, Float}
use Rattle.std.specs.declared.cmp.Ordering.{Ordering}
use Rattle.std.specs.declared.cmp.Ordering.TheVariants.{Less, Equal, Greater}
use Rattle.fractions.specs.declared.Point.{Point}
use Rattle.line_segment.specs.declared.LineSegment.{LineSegment}
use Rattle.line_segment.specs.declared.Meeting.{Meeting}
use Rattle.line_segment.specs.Piece.{point_of, end_order}
use Rattle.line_segment.specs.Segment.{intersect_of, crossing_of}
use Rattle.place.specs.declared.PlacePoint.{PlacePoint}
use Rattle.place.specs.declared.Where.{Where}
use Rattle.place.specs.declared.Place.{Place}
use Rattle.place.specs.Binary64.{nearest}

-- "At that point .., and Along only when the ends differ": from p to q, by their order; a stretch never runs back
unfoldable pub along_by : Ordering → Point → Point → Where
along_by Less p q = Where.Along p q
along_by Equal p q = Where.At p
along_by Greater p q = Where.Along p q

unfoldable pub along_of : LineSegment → Where
along_of s = along_by (end_order s.min s.max) (point_of s.min) (point_of s.max)

-- "Nothing, At a point, or Along from one point to another"
unfoldable pub where_by : Meeting → Point → Where
where_by Meeting.Nothing p = Where.Nothing
where_by Meeting.Crossing p = Where.At p
where_by (Meeting.Overlap s) p = along_of s

unfoldable pub where_of : LineSegment → LineSegment → Where
where_of a b = where_by (intersect_of a b) (crossing_of a b)

-- "each value is the binary64 nearest to the exact fraction": X over D, and Y over D
unfoldable pub nearest_point : Point → PlacePoint
nearest_point p = record { x = nearest p.x p.d; y = nearest p.y p.d }

-- binary64 holds the three numbers of the point as they stand, so that one division rounds once
pub record Held (p : Point) : Type 0 where
  pub positive : 0 < p.d
  pub x : nat_abs p.x ≤ 2 ^ 53
  pub y : nat_abs p.y ≤ 2 ^ 53
  pub d : p.d ≤ 2 ^ 53

-- "as binary64 values"
unfoldable pub in_binary64 : Where → Place
in_binary64 Where.Nothing = Place.Nothing
in_binary64 (Where.At p) = Place.At (nearest_point p)
in_binary64 (Where.Along p q) = Place.Along (nearest_point p) (nearest_point q)

unfoldable pub place_of : LineSegment → LineSegment → Place
place_of a b = in_binary64 (where_of a b)

-- the values of each case: "Nothing, At a point, or Along from one point to another"
abbrev pub values_of : Place → List Float
values_of Place.Nothing = []
values_of (Place.At v) = v.x ∷ v.y ∷ []
values_of (Place.Along v w) = v.x ∷ v.y ∷ w.x ∷ w.y ∷ []
