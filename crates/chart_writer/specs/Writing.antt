-- What the writer answers and leaves in lent bytes: the file of the chart, as chart_file defines it.
use Rattle.std.specs.Prelude.{◌≡◌, List, ◌++◌, ℕ, ◌%◌, ◌<◌, ℤ, pos, length, get_or, drop}
use Rattle.charts.specs.Chart.{verdict_of}
use Rattle.charts.specs.Answer.{answer_of, then_room}
use Rattle.charts.specs.declared.Answer.{Answer}
use Rattle.charts.specs.Verdict.{Verdict}
use Rattle.charts.specs.Verdict.{Accepted, Refused}
use Rattle.chart_file.specs.Format.{file_of, longest}
use Rattle.chart_file.specs.Demand.{InRange}

-- "list faults as for the other list calls, then 8 when fewer than 2,602 bytes are lent"
unfoldable pub writing_of : List ℤ → ℕ → Verdict
writing_of list lent = then_room (λ n. longest) lent (verdict_of list)

-- "Bytes beyond the file keep their values"; a refusal "writes nothing into lent memory"
abbrev pub written_by : List ℤ → List ℕ → Verdict → List ℕ
written_by list lent (Accepted n) = file_of list ++ drop (length (file_of list)) lent
written_by list lent (Refused number place) = lent

-- what a call of the writer answers, with the count of bytes written, and leaves in the lent bytes
pub record Writes (list : List ℤ) (lent : List ℕ) (r : Answer) (after : List ℕ) : Type 0 where
  pub answer : r ≡ answer_of (λ n. length (file_of list)) (writing_of list (length lent))
  pub content : after ≡ written_by list lent (writing_of list (length lent))

-- every number of a list is in range
pub record InRanges (list : List ℤ) : Type 0 where
  pub ranged : (i : ℕ) → i < length list → InRange (i % 5) (get_or list i (pos 0))
