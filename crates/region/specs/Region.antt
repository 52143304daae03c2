-- Where a peak lies to a region, from the sides, the segment's own points and the half-line alone.
use Rattle.std.specs.Prelude.{Bool, false, cond, ◌||◌, List, ℕ, ◌%◌, eqb, ltb, ℤ, pos, ◌+ℤ◌, Option, None, Some, Result, Ok, Err}
use Rattle.orientation.specs.Turn.{is_left, is_straight}
use Rattle.fractions.specs.Point.{whole_of}
use Rattle.line_segment.specs.Segment.{contains_of}
use Rattle.half_line.specs.declared.Corner.{Corner}
use Rattle.half_line.specs.HalfLine.{half_line_of}
use Rattle.half_line.specs.Call.{corner_at}
use Rattle.charts.specs.Verdict.{Verdict}
use Rattle.charts.specs.Refusal.{number}
use Rattle.charts.specs.declared.Refusal.{Refusal}
use Rattle.outline.specs.Counting.{first, count}
use Rattle.outline.specs.Outline.{side_of, verdict_of}
use Rattle.region.specs.declared.Region.{Region}
use Rattle.orientation.specs.declared.Orientation.{Orientation}

-- "the half-line towards (x+1, y)"
abbrev pub right_of : Corner → Corner
right_of p = record { x = p.x +ℤ pos 1; y = p.y }

-- "with `Crossing(CoLinear)` or `Crossing(CounterClockWise)`"
abbrev pub counted : Option Orientation → Bool
counted None = false
counted (Some o) = is_straight o || is_left o

-- of an outline's n sides, side i: "some side, both ends included, contains it"
unfoldable pub on_side : List ℤ → ℕ → Corner → ℕ → Bool
on_side outline n p i = contains_of (side_of outline n i) (whole_of p.x p.y)

-- "the sides met by the half-line"
unfoldable pub met_side : List ℤ → ℕ → Corner → ℕ → Bool
met_side outline n p i = counted (half_line_of p (right_of p) (side_of outline n i))

-- "Inside when the sides .. are odd in number, Outside otherwise"
abbrev pub parity : ℕ → Region
parity k = cond (eqb (k % 2) 1) Region.Inside Region.Outside

-- "On, when some side .. contains it; else" by the sides met
unfoldable pub region_of : List ℤ → ℕ → Corner → Region
region_of outline n p = cond (ltb (first (on_side outline n p) n) n) Region.On (parity (count (met_side outline n p) n))

-- what the call says: zero where it is done, else the number and the place of a refusal, and no region
pub record RegionAnswer : Type 0 where
  pub number : ℕ
  pub place : ℕ
  pub region : Option Region

-- "A refusal returns its number and a place, with every other field .. none"; "Done has place zero"
abbrev pub answer_by : (ℕ → Region) → Verdict → RegionAnswer
answer_by region (Verdict.Accepted n) = record { number = 0; place = 0; region = Some (region n) }
answer_by region (Verdict.Refused number place) = record { number = number; place = place; region = None }

unfoldable pub region_answer_of : List ℤ → ℤ → ℤ → RegionAnswer
region_answer_of outline x y = answer_by (λ n. region_of outline n (corner_at x y)) (verdict_of outline x y)

-- the answer that a result says
abbrev pub region_told : Result Region Refusal → RegionAnswer
region_told (Ok region) = record { number = 0; place = 0; region = Some region }
region_told (Err refusal) = record { number = number refusal.reason; place = refusal.place; region = None }
