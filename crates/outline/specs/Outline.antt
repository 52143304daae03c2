-- An outline as a list of numbers, two a corner, its sides, and the verdict on it and a peak.
use Rattle.std.specs.Prelude.{Bool, cond, not, ◌||◌, List, ℕ, ◌+◌, ◌*◌, ◌/◌, ◌%◌, eqb, ltb, ℤ, pos, length, get_or}
use Rattle.std.specs.Int.Signed.{lt_z}
use Rattle.line_segment.specs.declared.LineSegment.{LineSegment}
use Rattle.line_segment.specs.Piece.{piece_of}
use Rattle.charts.specs.Fault.{off_range, same_ends}
use Rattle.charts.specs.Piece.{coordinate_of}
use Rattle.charts.specs.Verdict.{Verdict}
use Rattle.charts.specs.Verdict.{Accepted, Refused}
use Rattle.outline.specs.Counting.{first}

-- "closed outlines of 3 to 64 corners"
abbrev pub fewest : ℕ
fewest = 3

abbrev pub most : ℕ
most = 64

-- number k of corner i: 0 for x, 1 for y
unfoldable pub number_at : List ℤ → ℕ → ℕ → ℤ
number_at outline i k = get_or outline (2 * i + k) (pos 0)

-- "its next (the first follows the last)"
unfoldable pub next_of : ℕ → ℕ → ℕ
next_of n i = cond (ltb (i + 1) n) (i + 1) 0

-- corner i is out of range
unfoldable pub off_at : List ℤ → ℕ → Bool
off_at outline i = off_range (number_at outline i 0) (number_at outline i 1)

-- corner i is equal to its next, of n
unfoldable pub same_at : List ℤ → ℕ → ℕ → Bool
same_at outline n i =
    same_ends (number_at outline i 0) (number_at outline i 1) (number_at outline (next_of n i) 0) (number_at outline (next_of n i) 1)

-- "x stops at 32,766"
unfoldable pub off_peak : ℤ → ℤ → Bool
off_peak x y = off_range x y || lt_z (pos 32766) x

-- the side from corner i to its next: "some side, both ends included"
unfoldable pub side_of : List ℤ → ℕ → ℕ → LineSegment
side_of outline n i =
    piece_of 3
    (coordinate_of (number_at outline i 0))
    (coordinate_of (number_at outline i 1))
    (coordinate_of (number_at outline (next_of n i) 0))
    (coordinate_of (number_at outline (next_of n i) 1))

-- "15 for an odd count of numbers or a corner count outside 3 to 64"
unfoldable pub no_outline : List ℤ → Bool
no_outline outline = not (eqb (length outline % 2) 0) || (ltb (length outline / 2) fewest || ltb most (length outline / 2))

-- "then 5 at the first corner out of range, then 6 at the first corner equal to its next .., then 5 for the peak"; "The
-- place is the corner's number, else zero."
unfoldable pub verdict_of : List ℤ → ℤ → ℤ → Verdict
verdict_of outline x y =
    let n = length outline / 2 in
    let off = first (off_at outline) n in
    let same = first (same_at outline n) n in
    cond (no_outline outline) (Refused 15 0)
    (cond (ltb off n) (Refused 5 off)
    (cond (ltb same n) (Refused 6 same)
    (cond (off_peak x y) (Refused 5 0)
    (Accepted n))))
