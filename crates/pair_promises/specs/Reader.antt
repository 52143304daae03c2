-- What is promised of the reader: of what it returns, and of the numbers that its caller finds in the lent list.
use Rattle.std.specs.Prelude.{◌≡◌, List, ◌++◌, ℕ, ◌*◌, ◌≤◌, ◌<◌, ℤ, length, drop}
use Rattle.charts.specs.declared.Answer.{Answer}
use Rattle.charts.specs.Verdict.{Accepted}
use Rattle.charts.specs.Answer.{refused_with}
use Rattle.charts.specs.Chart.{most}
use Rattle.charts.specs.Demand.{Due}
use Rattle.chart_file.specs.Groups.{Bytes}
use Rattle.chart_file.specs.Format.{file_of}
use Rattle.chart_file.specs.Reading.{due, stopped, Reads}
use Rattle.chart_file.specs.Demand as file
use Rattle.promises.specs.Refusals.{RefusalPromises}

-- "the reader then returns the count of pieces"; "Numbers past 5n keep their values"
pub record Holds (list : List ℤ) (n : ℕ) (chart : List ℤ) (r : Answer) (after : List ℤ) : Type 0 where
  pub count : r.count ≡ n
  pub content : after ≡ chart ++ drop (5 * n) list

-- a file of bytes, and the lent list
pub record Input : Type 0 where
  pub file : List ℕ
  pub bytes : Bytes file
  pub list : List ℤ

pub data Refuse (i : Input) : ℕ → ℕ → Type 0 where
  -- "8 first (under 1,000 numbers lent)"
  room : length i.list < 5 * most → Refuse i 8 0
  -- "then the first fault in reading order"
  fault : (k p : ℕ) → 5 * most ≤ length i.list → file.Due i.file (stopped k p) → Refuse i k p

pub record Accept (i : Input) : Type 0 where
  pub room : 5 * most ≤ length i.list
  pub chart : List ℤ
  pub end : ℕ
  pub due : file.Due i.file (due chart end)

module _ (Allowed : List ℕ → List ℤ → Answer → List ℤ → Type 0) where
  -- a file that is read is the file of a chart that the table accepts, and that chart is what the list holds
  abbrev pub ReadsChart : Type 0
  ReadsChart =
      (s : List ℕ) (list : List ℤ) (r : Answer) (after : List ℤ) → Bytes s → Allowed s list r after → r.number ≡ 0
      → (n : ℕ) × (chart : List ℤ) × Due chart (Accepted n) × (s ≡ file_of chart) × Holds list n chart r after

  -- the file of every such chart is read
  abbrev pub ReadsEvery : Type 0
  ReadsEvery =
      (chart : List ℤ) (n : ℕ) (list : List ℤ) (r : Answer) (after : List ℤ) → Due chart (Accepted n)
      → 5 * most ≤ length list → Allowed (file_of chart) list r after → (r.number ≡ 0) × Holds list n chart r after

  abbrev pub Refusals : Type 0
  Refusals =
      RefusalPromises {I = Input} {O = Answer × List ℤ} Refuse Accept
      (λ i o. Allowed i.file i.list o.0 o.1)
      (λ o. o.0.number) (λ o. o.0.place)
      (λ i k p. (refused_with k p, i.list))

  pub record ReaderPromises : Type 0 where
    pub reads_chart : ReadsChart
    pub reads_every : ReadsEvery
    pub refusals : Refusals
