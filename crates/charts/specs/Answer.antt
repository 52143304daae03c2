-- What a call on a list answers, by the numbers of the table of refusals, and the room that a list of pairs needs.
use Rattle.std.specs.Prelude.{cond, List, ℕ, ◌*◌, ◌-◌, ltb, ℤ}
use Rattle.charts.specs.Chart.{verdict_of}
use Rattle.charts.specs.declared.Answer.{Answer}
use Rattle.charts.specs.Verdict.{Verdict}
use Rattle.charts.specs.Verdict.{Accepted, Refused}

-- "Done has place zero; .. a list-making call [returns] the count of pairs."
abbrev pub done_with : ℕ → Answer
done_with count = record { number = 0; place = 0; count = count }

-- "A refusal returns its number and a place, with every other field zero"
abbrev pub refused_with : ℕ → ℕ → Answer
refused_with number place = record { number = number; place = place; count = 0 }

-- the answer for each verdict, with the count of what an accepted chart of n pieces gives
abbrev pub answer_of : (ℕ → ℕ) → Verdict → Answer
answer_of count (Accepted n) = done_with (count n)
answer_of count (Refused number place) = refused_with number place

-- "The two list-making calls need n(n-1) lent bytes, two a pair"
unfoldable pub room : ℕ → ℕ
room n = n * (n - 1)

-- "then 8": "lent room too small", place zero, where a chart of n pieces needs so much
abbrev pub then_room : (ℕ → ℕ) → ℕ → Verdict → Verdict
then_room need lent (Accepted n) = cond (ltb lent (need n)) (Refused 8 0) (Accepted n)
then_room need lent (Refused number place) = Refused number place

-- the verdict on a list of which the pairs go into so many lent bytes
unfoldable pub listing_of : List ℤ → ℕ → Verdict
listing_of list lent = then_room room lent (verdict_of list)
