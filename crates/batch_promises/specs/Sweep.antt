-- A chart of a batch as its caller has it: its own numbers in the list, its own part of the bytes before and after the call,
-- and what is read in its own result. All promises of a sweep are to hold of it.
use Rattle.std.specs.Prelude.{◌≡◌, List, ℕ, ◌<◌, ℤ, length}
use Rattle.charts.specs.declared.Answer.{Answer}
use Rattle.bentley_ottmann.specs.declared.Swept.{Swept}
use Rattle.batch.specs.Single.{largest}
use Rattle.batch.specs.Batch.{Batches}
use Rattle.batch.specs.Demand.{numbers_at, part_at, result_at, swept_in}

-- "its own result, equal to that of a single sweep in the new mode with the largest budget"
pub record InBatch (list : List ℤ) (budget : ℕ) (lent : List ℕ) (r : Swept) (after : List ℕ) : Type 0 where
  pub lists : List ℤ
  pub lengths : List ℕ
  pub bytes : List ℕ
  pub numbers : List ℕ
  pub answer : Answer
  pub left : List ℕ
  pub told : List ℕ
  pub allowed : Batches lists lengths bytes numbers answer left told
  pub done : answer.number ≡ 0
  -- chart i of it
  pub i : ℕ
  pub within : i < length lengths
  pub its_list : list ≡ numbers_at lengths lists i
  pub its_budget : budget ≡ largest
  pub its_part : lent ≡ part_at lengths bytes i
  pub its_result : r ≡ swept_in (result_at told i)
  pub its_bytes : after ≡ part_at lengths left i
