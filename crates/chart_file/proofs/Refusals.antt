-- A file is refused with one of the table's numbers from 1 to 7.
use mathlib.Core.Path.{◌≡◌}
use mathlib.Core.List.{List}
use Prim.Native.Nat.{ℕ, ◌≤◌}
use native.Mathlib.Omega.{arith}
use Rattle.chart_file.specs.Found.{Fault}
use Rattle.chart_file.specs.Groups.{Bytes}
use Rattle.chart_file.specs.Reading.{stopped, reading_of}
use Rattle.chart_file.specs.Demand.{InGroups, ends, unended, padded, Amiss, kind_due, kind, groups_fault, coordinate, Due, count_fault, count, number, piece, extra}
use Rattle.chart_file.proofs.Files.{reads_exactly}

groups_few : {k at f : ℕ} {t : List ℕ} → InGroups k t at (Fault f) → (1 ≤ f) × (f ≤ 7)
groups_few (ends n h l m) = (omega arith, omega arith)
groups_few (unended m) = (omega arith, omega arith)
groups_few (padded n h l g m z) = (omega arith, omega arith)

number_few : {at c f : ℕ} {t : List ℕ} → Amiss t at c f → (1 ≤ f) × (f ≤ 7)
number_few (kind_due e) = (omega arith, omega arith)
number_few (kind b rest e o) = (omega arith, omega arith)
number_few (groups_fault c f g) = groups_few g
number_few (coordinate c v rest h e o) = (omega arith, omega arith)

due_few : {s : List ℕ} {f p : ℕ} → Due s (stopped f p) → (1 ≤ f) × (f ≤ 7)
due_few (count_fault f g) = groups_few g
due_few (count n rest m e h) = (omega arith, omega arith)
due_few (number n p c f xs rest h l e b a) = number_few a
due_few (piece n p xs rest h l b e) = (omega arith, omega arith)
due_few (extra n xs b rest l e) = (omega arith, omega arith)

pub refused_few : (s : List ℕ) → Bytes s → (f p : ℕ) → reading_of s ≡ stopped f p → (1 ≤ f) × (f ≤ 7)
refused_few s b f p e = due_few ((reads_exactly s b (stopped f p)).0 e)
