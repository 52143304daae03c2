-- How long a line is: a pair's has at most 47 bytes, one of an At at most 44.
-- Assumes nothing.
use mathlib.Core.Path.{◌≡◌, refl}
use mathlib.Core.Bool.{Bool, true, false}
use mathlib.Core.List.{List}
use Prim.Native.Nat.{ℕ, suc, ◌+◌, ◌*◌, ◌^◌, ◌≤◌, ◌<◌}
use native.Mathlib.Omega.{arith}
use lib.Dec.{lit≤}
use lib.IntN.{ℤ, pos, negsuc, nat_abs}
use lib.ListN.{length, length-append}
use Rattle.fractions.specs.declared.Point.{Point}
use Rattle.line_segment.specs.declared.LineSegment.{LineSegment}
use Rattle.line_segment.specs.declared.Meeting.{Meeting}
use Rattle.line_segment.specs.Piece.{HasLength, point_of}
use Rattle.line_segment.specs.Segment.{intersect_of, crossing_of}
use Rattle.line_segment.proofs.Promises.{crossing_is_cramers}
use Rattle.place.specs.declared.Where.{Where}
use Rattle.place.specs.Place.{where_by, where_of}
use Rattle.place.specs.Demand.{InRange}
use Rattle.place.proofs.Inside.{x_inside, y_inside}
use Rattle.place.proofs.Points.{All, along_all}
use Rattle.place.proofs.Held.{StretchInRange, overlap, meeting_in}
use Rattle.decimals.specs.Text.{ascii}
use Rattle.decimals.specs.Decimal.{signed_decimal}
use Rattle.decimals.proofs.Digits.{short}
use Rattle.units.specs.Units.{low_of, high_of}
use Rattle.units.proofs.Sides.{stays_within}
use Rattle.listing_lines.specs.Lines.{count_line, complete_line, number_text, point_text, end_text, place_text, pair_line}

-- ---- numbers
signed_width : (z : ℤ) → nat_abs z ≤ 2 ^ 15 → length (signed_decimal z) ≤ 6
unfolding signed_decimal
signed_width (pos n) h = omega (arith, short n 4 (omega arith))
signed_width (negsuc n) h = omega (arith, short (suc n) 4 (omega arith))

number_width : (z : ℤ) → nat_abs z ≤ 2 ^ 15 → length (number_text z) ≤ 7
unfolding number_text ascii
number_width z h = omega (arith, signed_width z h)

low_width : (x : ℤ) (d : ℕ) → nat_abs x ≤ 2 ^ 15 * d → length (number_text (low_of x d)) ≤ 7
low_width x d h = number_width (low_of x d) (stays_within x d (2 ^ 15) h).0

high_width : (x : ℤ) (d : ℕ) → nat_abs x ≤ 2 ^ 15 * d → length (number_text (high_of x d)) ≤ 7
high_width x d h = number_width (high_of x d) (stays_within x d (2 ^ 15) h).1

-- ---- points and places
record Charted (p : Point) : Type 0 where
  x : nat_abs p.x ≤ 2 ^ 15 * p.d
  y : nat_abs p.y ≤ 2 ^ 15 * p.d

point_width : (p : Point) → Charted p → length (point_text p) ≤ 28
unfolding point_text
point_width p h =
    rw (length-append, length-append, length-append)
    (omega (arith, low_width p.x p.d h.x, high_width p.x p.d h.x, low_width p.y p.d h.y, high_width p.y p.d h.y))

end_width : (p : Point) → Charted p → length (end_text p) ≤ 14
unfolding end_text
end_width p h =
    rw length-append (omega (arith, low_width p.x p.d h.x, low_width p.y p.d h.y))

place_width : (w : Where) → All Charted w → length (place_text w) ≤ 34
unfolding place_text ascii
place_width Where.Nothing h = omega arith
place_width (Where.At p) h = omega (arith, point_width p h)
place_width (Where.Along p q) h = omega (arith, length-append (end_text p) (end_text q), end_width p h.0, end_width q h.1)

-- a crossing lies on both pieces, and an overlap's ends are theirs
end_charted : (x y : ℤ) → nat_abs x ≤ 2 ^ 15 → nat_abs y ≤ 2 ^ 15 → Charted (record { x = x; y = y; d = 1 })
end_charted x y h k = record { x = omega arith; y = omega arith }

where_charted : (a b : LineSegment) → HasLength a → HasLength b → InRange a → InRange b → All Charted (where_of a b)
unfolding where_of where_by point_of
where_charted a b h k r s = go (intersect_of a b) refl (meeting_in a b r s)
  where
    go : (m : Meeting) → intersect_of a b ≡ m → StretchInRange m → All Charted (where_by m (crossing_of a b))
    go Meeting.Nothing e _ = tt
    go Meeting.Crossing e _ =
        let on = (crossing_is_cramers a b h k e).1.common.first in
        record { x = x_inside a (crossing_of a b) on r; y = y_inside a (crossing_of a b) on r h }
    go (Meeting.Overlap t) e (overlap i) =
        along_all Charted t (end_charted t.min.x t.min.y i.min.x.small i.min.y.small) (end_charted t.max.x t.max.y i.max.x.small i.max.y.small)

-- ---- lines
pub count_width : (word : List ℕ) (n k : ℕ) → n < 10 ^ suc k → length (count_line word n) ≤ length word + suc k + 1
unfolding count_line ascii
count_width word n k h = rw (length-append, length-append) (omega (arith, short n k h))

pub complete_width : (b : Bool) → length (complete_line b) ≤ 13
unfolding complete_line ascii
complete_width true = lit≤ tt
complete_width false = lit≤ tt

pub pair_width : (a b : LineSegment) (i j : ℕ) → HasLength a → HasLength b → InRange a → InRange b → i < 1000 → j < 1000 → length (pair_line (where_of a b) i j) ≤ 47
unfolding pair_line ascii
pair_width a b i j h k r s l m =
    rw (length-append, length-append, length-append, length-append, length-append)
    (omega (arith, short i 2 l, short j 2 m, place_width (where_of a b) (where_charted a b h k r s)))
