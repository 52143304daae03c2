-- What the calls that make an open chart, change it and count its pieces answer, and what they leave in its memory.
use Rattle.std.specs.Prelude.{cond, ◌&&◌, List, ◌++◌, ℕ, zero, suc, eqb, ltb, ℤ, negsuc, length, drop, replicate}
use Rattle.charts.specs.declared.Answer.{Answer}
use Rattle.charts.specs.Verdict.{Verdict}
use Rattle.charts.specs.Verdict.{Accepted, Refused}
use Rattle.charts.specs.Answer.{answer_of}
use Rattle.charts.specs.Chart.{fault_at}
use Rattle.open_chart.specs.Memory.{places, memory, is_used, used_below, lowest_free, vacant, written}
use Rattle.open_chart.specs.declared.Changed.{Changed}

-- "8 first, where fewer than 1,000 numbers are lent"
unfoldable pub whole : List ℤ → Verdict → Verdict
whole chart v = cond (ltb (length chart) memory) (Refused 8 0) v

-- a piece's own fault, where it has one
abbrev pub faulted : ℕ → Verdict → Verdict
faulted zero v = v
faulted (suc k) v = Refused (suc k) 0

-- ---- a change: the place that it goes to, or the refusal
-- "A new piece takes the lowest free number"; "4, 5, 6 for the piece; then 17 only when all 200 places are used"
unfoldable pub adding : List ℤ → List ℤ → Verdict
adding chart numbers =
    whole chart (faulted (fault_at numbers 0) (cond (eqb (lowest_free chart places) places) (Refused 17 0) (Accepted (lowest_free chart places))))

-- "18 for dropping a free or unknown number": 200 and more are unknown
unfoldable pub dropping : List ℤ → ℕ → Verdict
dropping chart i = whole chart (cond (ltb i places && is_used chart i) (Accepted i) (Refused 18 0))

-- "A refused change alters nothing."
abbrev pub changed_by : List ℤ → List ℤ → Verdict → List ℤ
changed_by chart numbers (Accepted i) = written chart i numbers
changed_by chart numbers (Refused number place) = chart

unfoldable pub after_adding : List ℤ → List ℤ → List ℤ
after_adding chart numbers = changed_by chart numbers (adding chart numbers)

unfoldable pub after_dropping : List ℤ → ℕ → List ℤ
after_dropping chart i = changed_by chart vacant (dropping chart i)

-- ---- what a change answers
abbrev pub done_with : ℕ → Changed
done_with piece = record { number = 0; place = 0; piece = piece }

abbrev pub refused_with : ℕ → Changed
refused_with number = record { number = number; place = 0; piece = 0 }

-- "the place is zero in each"
abbrev pub changed_of : Verdict → Changed
changed_of (Accepted i) = done_with i
changed_of (Refused number place) = refused_with number

-- ---- an empty chart, and the count of used places
unfoldable pub emptying_of : List ℤ → Answer
emptying_of chart = answer_of (λ n. n) (whole chart (Accepted 0))

unfoldable pub emptied : List ℤ → List ℤ
emptied chart = replicate memory (negsuc 0) ++ drop memory chart

unfoldable pub after_emptying : List ℤ → List ℤ
after_emptying chart = cond (ltb (length chart) memory) chart (emptied chart)

unfoldable pub used_of : List ℤ → Answer
used_of chart = answer_of (λ n. n) (whole chart (Accepted (length (used_below chart places))))
