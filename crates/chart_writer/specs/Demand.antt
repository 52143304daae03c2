-- What is promised of the writer, over what a caller has: the list, the lent bytes, the answer, and the bytes after the call.
use Rattle.std.specs.Prelude.{◌≡◌, ◌↔◌, List, ◌++◌, ℕ, ◌*◌, ◌/◌, ◌%◌, ◌^◌, ◌≤◌, ◌<◌, ℤ, pos, length, get_or, take, drop}
use Rattle.charts.specs.Chart.{most}
use Rattle.charts.specs.Answer.{done_with, refused_with}
use Rattle.charts.specs.Demand.{RoomDue}
use Rattle.charts.specs.declared.Answer.{Answer}
use Rattle.charts.specs.Verdict.{Verdict}
use Rattle.charts.specs.Verdict.{Accepted, Refused}
use Rattle.chart_file.specs.Groups.{value, spelled, Bytes, Canonical}
use Rattle.chart_file.specs.Coordinate.{stored}
use Rattle.chart_file.specs.Format.{file_of, longest}
use Rattle.chart_file.specs.Reading.{Reads}
use Rattle.chart_file.specs.Demand.{place_of}
use Rattle.chart_writer.specs.Zeros.{groups_by}
use Rattle.chart_writer.specs.Writing.{Writes}

-- ---- groups

-- the count from leading zeros is that of the groups that a number stands in, whatever the width and the most groups
abbrev pub CountsGroups : Type 0
CountsGroups = (w k v : ℕ) → v < 2 ^ w → 0 < k → v < 128 ^ k → groups_by w v ≡ length (spelled k v)

-- a number u stands in front of the bytes t, in groups, and no bytes whose seven bits make up u are fewer
pub record InFewest (u : ℕ) (t : List ℕ) : Type 0 where
  pub own : List ℕ
  pub rest : List ℕ
  pub there : t ≡ own ++ rest
  pub canonical : Canonical own
  pub stands : value own ≡ u
  pub fewest : (gs : List ℕ) → 0 < length gs → value gs ≡ u → length own ≤ length gs

-- ---- calls

-- of every call that writes `list` into the bytes `lent`, answers r and leaves the bytes `after`
abbrev pub OnEveryCall : (List ℤ → List ℕ → Answer → List ℕ → Type 0) → Type 0
OnEveryCall P = (list : List ℤ) (lent : List ℕ) (r : Answer) (after : List ℕ) → Writes list lent r after → P list lent r after

-- what is due: "list faults as for the other list calls, then 8 when fewer than 2,602 bytes are lent"
abbrev pub WritingDue : List ℤ → List ℕ → Verdict → Type 0
WritingDue list lent v = RoomDue list (λ n. longest) (length lent) v

-- "given exactly when"
abbrev pub RefusesExactly : Type 0
RefusesExactly =
    OnEveryCall (λ list lent r after.
    (number place : ℕ) → 0 < number → ((r.number ≡ number) × (r.place ≡ place)) ↔ WritingDue list lent (Refused number place))

-- "A refusal returns its number and a place, with every other field zero, .. and writes nothing into lent memory."
abbrev pub RefusesWhole : Type 0
RefusesWhole =
    OnEveryCall (λ list lent r after.
    (number place : ℕ) → WritingDue list lent (Refused number place) → (r ≡ refused_with number place) × (after ≡ lent))

-- done has place zero and the count of bytes written; "Bytes beyond the file keep their values."
abbrev pub DoneExactly : Type 0
DoneExactly =
    OnEveryCall (λ list lent r after.
    (n : ℕ) → WritingDue list lent (Accepted n)
    → (r ≡ done_with (length (file_of list))) × (take r.count after ≡ file_of list) × (drop r.count after ≡ drop r.count lent))

-- "every number in the fewest groups of seven bits": the count, with which the bytes begin,
abbrev pub CountsFewest : Type 0
CountsFewest = OnEveryCall (λ list lent r after. r.number ≡ 0 → InFewest (length list / 5) after)

-- and coordinate i of the list, at its place in the bytes
abbrev pub WritesFewest : Type 0
WritesFewest =
    OnEveryCall (λ list lent r after.
    r.number ≡ 0 → (i : ℕ) → i < length list → (i % 5 ≡ 0 → ⊥)
    → InFewest (stored (get_or list i (pos 0))) (drop (place_of (length list / 5) (take i list)) after))

-- "Reading what was written gives the list again": into any numbers that have room for a chart
abbrev pub ReadsWritten : Type 0
ReadsWritten =
    OnEveryCall (λ list lent r after.
    r.number ≡ 0
    → (into : List ℤ) (q : Answer) (back : List ℤ) → 5 * most ≤ length into → Reads (take r.count after) into q back
    → (q ≡ done_with (length list / 5)) × (take (5 * q.count) back ≡ list))

-- "and writing what was read gives the same bytes": into any bytes that have room for a file
abbrev pub WritesRead : Type 0
WritesRead =
    (s : List ℕ) (into : List ℤ) (q : Answer) (read : List ℤ) → Bytes s → Reads s into q read → q.number ≡ 0
    → (lent : List ℕ) (r : Answer) (after : List ℕ) → longest ≤ length lent → Writes (take (5 * q.count) read) lent r after
    → (r ≡ done_with (length s)) × (take r.count after ≡ s)
