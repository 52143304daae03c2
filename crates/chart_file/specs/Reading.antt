-- What the reader makes of a file: "the first fault in reading order", or the chart.
use Rattle.std.specs.Prelude.{◌≡◌, cond, List, [], ◌∷◌, ◌++◌, ℕ, zero, suc, ◌+◌, ◌*◌, ◌/◌, ltb, leb, eqb, ℤ, pos, neg_ℤ, length, get_or, take, drop, Result, Ok}
use Rattle.charts.specs.Fault.{range, outside}
use Rattle.charts.specs.Chart.{most, fault_at}
use Rattle.charts.specs.declared.Answer.{Answer}
use Rattle.charts.specs.declared.Refusal.{Refusal}
use Rattle.charts.specs.Verdict.{Refused as RefusedAt}
use Rattle.charts.specs.Refusal.{told}
use Rattle.charts.specs.Answer.{done_with, refused_with}
use Rattle.chart_file.specs.Found.{Groups, Value, Fault, Number, Read, Refused}
use Rattle.chart_file.specs.Groups.{groups_at}
use Rattle.chart_file.specs.Coordinate.{signed_of}
use Rattle.chart_file.specs.Format.{groups}

-- ---- one number, at a place of the file s

-- the kind: 1, then 4
unfoldable pub kind_at : List ℕ → ℕ → Number
kind_at s at =
    cond (leb (length s) at) (Refused 1)
    (cond (outside (pos 0) (pos 3) (pos (get_or s at 0))) (Refused 4)
    (Read (pos (get_or s at 0)) (at + 1)))

-- the count, with which a file begins: "1 or 2 of a number before its 3, 4 or 5"
unfoldable pub limited : Groups → Groups
limited (Value n next) = cond (ltb most n) (Fault 3) (Value n next)
limited (Fault f) = Fault f

unfoldable pub count_at : List ℕ → Groups
count_at s = limited (groups_at groups s 0)

-- a coordinate
unfoldable pub turned : Groups → Number
turned (Value u next) = cond (outside (neg_ℤ range) range (signed_of u)) (Refused 5) (Read (signed_of u) next)
turned (Fault f) = Refused f

unfoldable pub coordinate_at : List ℕ → ℕ → Number
coordinate_at s at = turned (groups_at groups s at)

-- number c of a piece
unfoldable pub stands_at : List ℕ → ℕ → ℕ → Number
stands_at s zero = kind_at s
stands_at s (suc c) = coordinate_at s

-- ---- from number to number

-- the numbers read so far and where the next one is due, or the first refusal and its place
pub data Reading : Type 0 where
  due : List ℤ → ℕ → Reading
  stopped : ℕ → ℕ → Reading

-- "The place is the offset at which the number starts"
unfoldable pub joined : List ℤ → ℕ → Number → Reading
joined xs at (Read v next) = due (xs ++ (v ∷ [])) next
joined xs at (Refused f) = stopped f at

unfoldable pub more : (ℕ → Number) → Reading → Reading
more number_at (due xs at) = joined xs at (number_at at)
more number_at (stopped f p) = stopped f p

-- the first c numbers of a piece
unfoldable pub numbers : List ℕ → ℕ → Reading → Reading
numbers s zero r = r
numbers s (suc c) r = more (stands_at s c) (numbers s c r)

-- "6 after the four coordinates", "where the kind starts": its numbers are in range, so piece p can have no other fault
unfoldable pub with_length : ℕ → ℕ → Reading → Reading
with_length p start (due xs at) = cond (eqb (fault_at xs p) 0) (due xs at) (stopped 6 start)
with_length p start (stopped f q) = stopped f q

unfoldable pub piece : List ℕ → ℕ → Reading → Reading
piece s p (due xs at) = with_length p at (numbers s 5 (due xs at))
piece s p (stopped f q) = stopped f q

-- the first n pieces, from a place on
unfoldable pub pieces : List ℕ → ℕ → ℕ → Reading
pieces s start zero = due [] start
pieces s start (suc p) = piece s p (pieces s start p)

-- ---- the file

-- "7 last": "the first extra byte"
unfoldable pub ended : ℕ → Reading → Reading
ended size (due xs at) = cond (ltb at size) (stopped 7 at) (due xs at)
ended size (stopped f p) = stopped f p

-- the pieces follow the count; a refusal of the count has its place, 0
unfoldable pub counted : List ℕ → Groups → Reading
counted s (Value n next) = ended (length s) (pieces s next n)
counted s (Fault f) = stopped f 0

unfoldable pub reading_of : List ℕ → Reading
reading_of s = counted s (count_at s)

-- "8 first (under 1,000 numbers lent)"
unfoldable pub lent_reading : ℕ → List ℕ → Reading
lent_reading lent s = cond (ltb lent (5 * most)) (stopped 8 0) (reading_of s)

-- "the reader then returns the count of pieces"
unfoldable pub answer_of : Reading → Answer
answer_of (due xs at) = done_with (length xs / 5)
answer_of (stopped f p) = refused_with f p

-- what the lent list holds then: "Numbers past 5n keep their values", and a refusal "writes nothing into lent memory"
unfoldable pub content_of : Reading → List ℤ → List ℤ
content_of (due xs at) list = xs ++ drop (length xs) list
content_of (stopped f p) list = list

-- ---- the contracts

-- what a call of the reader answers and leaves in the lent list
pub record Reads (s : List ℕ) (list : List ℤ) (r : Answer) (after : List ℤ) : Type 0 where
  pub answer : r ≡ answer_of (lent_reading (length list) s)
  pub content : after ≡ content_of (lent_reading (length list) s) list

-- how the reader of n pieces leaves its own list: with all their numbers in front, or after a refusal
abbrev pub Left : ℕ → Reading → Result ℕ Refusal → List ℤ → Type 0
Left n (due xs at) r list = (r ≡ Ok at) × (xs ≡ take (5 * n) list) × (length list ≡ 5 * most)
Left n (stopped f p) r list = (told r ≡ RefusedAt f p) × (length list ≡ 5 * most)
