-- What is promised of a region's answer. Each statement is a type, inhabited in proofs/.
use Rattle.std.specs.Prelude.{◌≡◌, Bool, false, cond, not, ◌&&◌, ◌||◌, ◌↔◌, List, [], ◌∷◌, ◌++◌, ℕ, suc, ◌*◌, ◌<◌, ltb, ℤ, length, Option, None, Some}
use Rattle.std.specs.Int.Signed.{lt_z}
use Rattle.orientation.specs.Turn.{is_left, is_right, is_straight}
use Rattle.fractions.specs.Point.{whole_of}
use Rattle.line_segment.specs.declared.LineSegment.{LineSegment}
use Rattle.line_segment.specs.Geometry.{LiesOn}
use Rattle.half_line.specs.declared.Corner.{Corner}
use Rattle.half_line.specs.HalfLine.{corner_of, point_turn, half_line_of}
use Rattle.half_line.specs.Call.{corner_at}
use Rattle.charts.specs.Verdict.{Accepted}
use Rattle.outline.specs.Counting.{first, count}
use Rattle.outline.specs.Outline.{side_of, verdict_of}
use Rattle.region.specs.declared.Region.{Region}
use Rattle.region.specs.Region.{counted, right_of, on_side, parity, region_of, region_answer_of}
use Rattle.orientation.specs.declared.Orientation.{Orientation}

-- ---- on a side
-- some side of the n has the point x, y
abbrev pub OnSome : List ℤ → ℕ → ℤ → ℤ → Type 0
OnSome outline n x y = (i : ℕ) × (i < n) × LiesOn (side_of outline n i) (whole_of x y)

-- of an accepted outline: On exactly when the peak lies on a side
abbrev pub OnExactly : Type 0
OnExactly =
    (outline : List ℤ) (x y : ℤ) (n : ℕ) → verdict_of outline x y ≡ Accepted n
    → ((region_answer_of outline x y).region ≡ Some Region.On) ↔ OnSome outline n x y

-- ---- the even-odd rule, over geometry alone
-- an end is above the peak's height
abbrev pub above : Corner → Corner → Bool
above p e = lt_z p.y e.y

-- half-open: from an end at the peak's height or below it up to an end above it, and the peak to the left of the way
abbrev pub rises : Corner → Corner → Corner → Bool
rises p low high = not (above p low) && (above p high && is_left (point_turn low high p))

-- a side crosses the half-line to the right of the peak, whichever end is the higher
unfoldable pub crosses_right : Corner → LineSegment → Bool
crosses_right p s = rises p (corner_of s.min) (corner_of s.max) || rises p (corner_of s.max) (corner_of s.min)

-- what the Rust's half-line counts is what the half-open rule counts, side by side
abbrev pub CountsHalfOpen : Type 0
CountsHalfOpen = (p : Corner) (s : LineSegment) → counted (half_line_of p (right_of p) s) ≡ crosses_right p s

-- so the answer is that of the even-odd rule, for any outline, one that crosses itself too
unfoldable pub even_odd : List ℤ → ℕ → Corner → Region
even_odd outline n p =
    cond (ltb (first (on_side outline n p) n) n) Region.On (parity (count (λ i. crosses_right p (side_of outline n i)) n))

abbrev pub EvenOdd : Type 0
EvenOdd = (outline : List ℤ) (n : ℕ) (p : Corner) → region_of outline n p ≡ even_odd outline n p

-- ---- how the outline is given
-- beginning at the next corner, the first one last, changes no answer; so beginning at any other does not
abbrev pub BeginsElsewhere : Type 0
BeginsElsewhere =
    (a b : ℤ) (rest : List ℤ) (n : ℕ) (p : Corner) → length rest ≡ 2 * n
    → region_of (rest ++ (a ∷ b ∷ [])) (suc n) p ≡ region_of (a ∷ b ∷ rest) (suc n) p

-- the corners in the other order
unfoldable pub round : List ℤ → List ℤ
round [] = []
round (a ∷ []) = a ∷ []
round (a ∷ b ∷ rest) = round rest ++ (a ∷ b ∷ [])

-- turning the outline round changes no answer
abbrev pub TurnsRound : Type 0
TurnsRound = (outline : List ℤ) (n : ℕ) (p : Corner) → length outline ≡ 2 * n → region_of (round outline) n p ≡ region_of outline n p

-- ---- the two senses
-- an answer as it counts where `ClockWise` is asked for instead of `CounterClockWise`
abbrev pub counted_other : Option Orientation → Bool
counted_other None = false
counted_other (Some o) = is_straight o || is_right o

unfoldable pub other_sense : List ℤ → ℕ → Corner → Region
other_sense outline n p =
    cond (ltb (first (on_side outline n p) n) n) Region.On
    (parity (count (λ i. counted_other (half_line_of p (right_of p) (side_of outline n i))) n))

-- exchanging them changes no answer of an accepted outline: a corner to the right of the peak at its height belongs to two sides
abbrev pub SensesExchanged : Type 0
SensesExchanged =
    (outline : List ℤ) (x y : ℤ) (n : ℕ) → verdict_of outline x y ≡ Accepted n
    → Some (other_sense outline n (corner_at x y)) ≡ (region_answer_of outline x y).region
