-- The test of two pieces by the Rust's cases, in the Rust's order, and Cramer's point.
use Rattle.std.specs.Prelude.{Bool, cond, ◌&&◌, suc, ◌^◌, ltb, ℤ, pos, negsuc, nat_abs, neg_ℤ, ◌-ℤ◌, ◌*ℤ◌}
use Rattle.orientation.specs.Turn.{det, turn_of, reversed, is_straight, same_turn}
use Rattle.orientation.specs.declared.Orientation.{Orientation}
use Rattle.std.specs.declared.cmp.Ordering.{Ordering}
use Rattle.std.specs.declared.cmp.Ordering.TheVariants.{Less, Equal, Greater}
use Rattle.fractions.specs.declared.Point.{Point}
use Rattle.fractions.specs.Point.{point_order, lowest_of}
use Rattle.line_segment.specs.declared.EndPoint.{EndPoint}
use Rattle.line_segment.specs.declared.LineSegment.{LineSegment}
use Rattle.line_segment.specs.declared.Meeting.{Meeting}
use Rattle.line_segment.specs.declared.Meeting.TheVariants.{Nothing, Crossing, Overlap}
use Rattle.line_segment.specs.Piece.{point_of, end_order, join_of}
use Rattle.line_segment.specs.Geometry.{run, rise, side, admits}

-- "`leftmost`, `rightmost`: of equal points, Exclusive wins."
abbrev pub exclusive_of : EndPoint → EndPoint → EndPoint
exclusive_of a b = cond a.included b a

unfoldable pub left_by : Ordering → EndPoint → EndPoint → EndPoint
left_by Less a b = a
left_by Equal a b = exclusive_of a b
left_by Greater a b = b

unfoldable pub leftmost_of : EndPoint → EndPoint → EndPoint
leftmost_of a b = left_by (end_order a b) a b

unfoldable pub right_by : Ordering → EndPoint → EndPoint → EndPoint
right_by Less a b = b
right_by Equal a b = exclusive_of a b
right_by Greater a b = a

unfoldable pub rightmost_of : EndPoint → EndPoint → EndPoint
rightmost_of a b = right_by (end_order a b) a b

-- the point is between the ends of the piece
unfoldable pub within : Point → LineSegment → Bool
within p s =
    admits (point_order (point_of s.min) p) s.min.included
    && admits (point_order p (point_of s.max)) s.max.included

-- between two ends in either order
unfoldable pub inner_between : Point → EndPoint → EndPoint → Bool
inner_between p a b = within p (join_of a b)

-- "Collinear pieces: from the rightmost min to the leftmost max; `Overlap` if that runs forward, or is one point included by both."
unfoldable pub stretch_by : Ordering → LineSegment → Meeting
stretch_by Less s = Overlap s
stretch_by Equal s = cond (s.max.included && s.min.included) (Overlap s) Nothing
stretch_by Greater s = Nothing

unfoldable pub stretch_of : LineSegment → LineSegment → Meeting
stretch_of a b =
    let s : LineSegment = record { min = rightmost_of a.min b.min; max = leftmost_of a.max b.max } in
    stretch_by (end_order s.min s.max) s

-- an end of one piece on the line of the other, s
unfoldable pub touch_of : EndPoint → LineSegment → Meeting
touch_of e s = cond (e.included && inner_between (point_of e) s.min s.max) Crossing Nothing

-- how an end lies to a piece
unfoldable pub turn_to : LineSegment → EndPoint → Orientation
turn_to s e = turn_of (det s.min.x s.min.y s.max.x s.max.y e.x e.y)

-- the Rust's o == p.reverse()
unfoldable pub opposed : Orientation → Orientation → Bool
opposed o p = same_turn o (reversed p)

-- no end of b on the line of a, whose two sides have one each or do not
unfoldable pub astride_of : Bool → LineSegment → LineSegment → Meeting
astride_of astride a b =
    let a_min = turn_to b a.min in
    let a_max = turn_to b a.max in
    cond (is_straight a_min) (touch_of a.min b)
    (cond (is_straight a_max) (touch_of a.max b)
    (cond (astride && opposed a_min a_max) Crossing Nothing))

-- "Otherwise `Crossing` if the lines' one common point belongs to both, else nothing."
unfoldable pub intersect_of : LineSegment → LineSegment → Meeting
intersect_of a b =
    let b_min = turn_to a b.min in
    let b_max = turn_to a b.max in
    cond (is_straight b_min && is_straight b_max) (stretch_of a b)
    (cond (is_straight b_min) (touch_of b.min a)
    (cond (is_straight b_max) (touch_of b.max a)
    (astride_of (opposed b_min b_max) a b)))

-- "D stays below 2^33, X and Y below 2^48 in size." A point beyond that is on no piece
unfoldable pub in_bounds : Point → Bool
in_bounds p = ltb p.d (2 ^ 33) && (ltb (nat_abs p.x) (2 ^ 48) && ltb (nat_abs p.y) (2 ^ 48))

unfoldable pub contains_of : LineSegment → Point → Bool
contains_of s p = in_bounds p && (is_straight (turn_of (side s p)) && inner_between p s.min s.max)

-- Cramer's rule for the two lines, each rise * x - run * y = moment
unfoldable pub moment : LineSegment → ℤ
moment s = s.min.x *ℤ s.max.y -ℤ s.max.x *ℤ s.min.y

-- X, Y over D with D positive. Parallel lines have 0 for D
unfoldable pub over : ℤ → ℤ → ℤ → Point
over x y (pos d) = record { x = x; y = y; d = d }
over x y (negsuc d) = record { x = neg_ℤ x; y = neg_ℤ y; d = suc d }

unfoldable pub cramer_of : LineSegment → LineSegment → Point
cramer_of a b =
    over
    (run a *ℤ moment b -ℤ run b *ℤ moment a)
    (rise a *ℤ moment b -ℤ rise b *ℤ moment a)
    (run a *ℤ rise b -ℤ rise a *ℤ run b)

-- "with no common divisor above 1"
unfoldable pub crossing_of : LineSegment → LineSegment → Point
crossing_of a b = let p = cramer_of a b in lowest_of p.x p.y p.d
