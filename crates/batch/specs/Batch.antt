-- What the batch call answers, and what it leaves in the lent bytes and numbers.
use Rattle.std.specs.Prelude.{◌≡◌, cond, List, ℕ, zero, suc, ◌*◌, ◌≤◌, ltb, ℤ, length}
use Rattle.charts.specs.Answer.{done_with, refused_with}
use Rattle.charts.specs.declared.Answer.{Answer}
use Rattle.naive.specs.Pairs.{over}
use Rattle.batch.specs.Charts.{total, needs, fits, each, lefts, results}

-- "10 for more than 16 charts, then 11 when the lengths don't add up to the list or the lent bytes are fewer than the charts
-- need", "then 8 when fewer than ten numbers a chart are lent for the results"; 0 where there is none
unfoldable pub refusal_of : ℕ → List ℕ → ℕ → ℕ → ℕ
refusal_of numbers lengths lent room =
    cond (ltb 16 (length lengths)) 10
    (cond (fits lengths numbers lent)
    (cond (ltb room (10 * length lengths)) 8 0)
    11)

-- done returns the count of charts; the refusals of the whole call have place zero
abbrev pub answer_by : ℕ → ℕ → Answer
answer_by charts zero = done_with charts
answer_by charts (suc k) = refused_with (suc k) 0

-- a refusal "writes nothing into lent memory"
abbrev pub left_by : List ℕ → List ℕ → ℕ → List ℕ
left_by written lent zero = over written lent
left_by written lent (suc k) = lent

-- what a call of the batch answers, and leaves in the bytes and in the numbers lent for results
pub record Batches (list : List ℤ) (lengths lent numbers : List ℕ) (r : Answer) (after told : List ℕ) : Type 0 where
  pub answer : r ≡ answer_by (length lengths) (refusal_of (length list) lengths (length lent) (length numbers))
  pub bytes : after ≡ left_by (lefts (each lengths list lent)) lent (refusal_of (length list) lengths (length lent) (length numbers))
  pub told_is : told ≡ left_by (results (each lengths list lent)) numbers (refusal_of (length list) lengths (length lent) (length numbers))

-- ---- inside: there is room for all of it, and all of it is written
pub record Roomy (list : List ℤ) (lengths lent numbers : List ℕ) : Type 0 where
  pub adds_up : total lengths ≡ length list
  pub bytes : needs lengths ≤ length lent
  pub results : 10 * length lengths ≤ length numbers

pub record Writes (list : List ℤ) (lengths lent numbers after told : List ℕ) : Type 0 where
  pub bytes : after ≡ over (lefts (each lengths list lent)) lent
  pub told_is : told ≡ over (results (each lengths list lent)) numbers
