-- A piece of the chart: two ends, each with its mark, in the order of points.
use Rattle.std.specs.Prelude.{◌≡◌, Bool, true, ℕ, ◌/◌, ◌%◌, eqb, ℤ}
use Rattle.std.specs.declared.cmp.Ordering.{Ordering}
use Rattle.std.specs.declared.cmp.Ordering.TheVariants.{Less, Equal, Greater}
use Rattle.fractions.specs.declared.Point.{Point}
use Rattle.fractions.specs.Point.{point_order, whole_of}
use Rattle.line_segment.specs.declared.EndPoint.{EndPoint}
use Rattle.line_segment.specs.declared.LineSegment.{LineSegment}

-- where an end stands
unfoldable pub point_of : EndPoint → Point
point_of e = whole_of e.x e.y

-- "Points are ordered by x, then y."
unfoldable pub end_order : EndPoint → EndPoint → Ordering
end_order a b = point_order (point_of a) (point_of b)

-- "Kind 0 to 3: add 1 if the first end is included, 2 if the second is."
unfoldable pub first_included : ℕ → Bool
first_included kind = eqb (kind % 2) 1

unfoldable pub second_included : ℕ → Bool
second_included kind = eqb (kind / 2 % 2) 1

-- "The lesser end is the piece's min, the other its max, and the mark travels with its end."
unfoldable pub join_by : Ordering → EndPoint → EndPoint → LineSegment
join_by Less a b = record { min = a; max = b }
join_by Equal a b = record { min = b; max = a }
join_by Greater a b = record { min = b; max = a }

unfoldable pub join_of : EndPoint → EndPoint → LineSegment
join_of a b = join_by (end_order a b) a b

unfoldable pub piece_of : ℕ → ℤ → ℤ → ℤ → ℤ → LineSegment
piece_of kind x1 y1 x2 y2 =
    join_of
    (record { x = x1; y = y1; included = first_included kind })
    (record { x = x2; y = y2; included = second_included kind })

-- a piece of some length
abbrev pub HasLength : LineSegment → Type 0
HasLength s = end_order s.min s.max ≡ Less

-- the piece with its ends counted in
unfoldable pub closed : LineSegment → LineSegment
closed s =
    record {
      min = record { x = s.min.x; y = s.min.y; included = true };
      max = record { x = s.max.x; y = s.max.y; included = true };
    }
