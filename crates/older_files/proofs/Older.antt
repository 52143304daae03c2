-- A first byte of 64 or less is a count in one group, so both readers go on alike from place 1; a count above 64 begins with a
-- byte above 64.
-- Assumes nothing.
use mathlib.Core.Path.{◌≡◌, refl, ap, ◌∙◌}
use mathlib.Core.List.{List, [], ◌∷◌, ◌++◌}
use Prim.Native.Nat.{ℕ, zero, suc, ◌/◌, ◌≤◌, ◌<◌}
use native.Mathlib.Decide.{dec_lt}
use native.Mathlib.Omega.{arith}
use borrow.Author.Tests.{lt-leb, lt-ltb, le-ltb}
use lib.IntN.{ℤ, pos}
use lib.ListN.{length}
use Rattle.charts.specs.Fault.{outside, off_range, eq_z, same_ends, fault_of}
use Rattle.charts.specs.Chart.{number_at, fault_at, pieces, verdict_of}
use Rattle.charts.specs.Verdict.{Accepted}
use Rattle.chart_file.specs.Groups.{value, marked, groups_at}
use Rattle.chart_file.specs.Format.{count_of, file_of}
use Rattle.chart_file.specs.Reading.{stopped, limited, count_at, counted, kind_at, stands_at, joined, more, numbers, with_length, piece, ended, reading_of}
use Rattle.chart_file.specs.Reading.{pieces as pieces_in}
use Rattle.chart_file.proofs.Spelling.{spelled_last, spelled_more}
use Rattle.chart_file.proofs.Back.{reading_pieces}
use Rattle.chart_file.proofs.Files.{reads_file, file_reads}
use Rattle.chart_file.proofs.Examples.{examples}
use Rattle.older_files.specs.Before.{most_before, first_byte, before}
use Rattle.older_files.specs.Demand.{ReadsAsBefore, RefusedAsBefore, LargerRefused, LargerWritten, OthersRefused, Others}

-- ---- files that begin with 64 or less

same : (s : List ℕ) → first_byte s ≤ most_before → reading_of s ≡ before s
unfolding before
same [] h = examples.empty
same (b ∷ t) h =
    let one : count_of b ≡ b ∷ [] = spelled_last 2 b (omega arith) in
    rw (reading_pieces (b ∷ t) b t (rw one refl) (omega arith), one, lt-leb (suc (length t)) 0 (omega arith), le-ltb most_before b h)

pub reads_as_before : ReadsAsBefore
reads_as_before s h list at e = same s h ∙ e

pub refused_as_before : RefusedAsBefore
refused_as_before s h number place e = same s h ∙ e

-- ---- files that begin with more

pub others_refused : OthersRefused
unfolding before
others_refused [] h = absurd (omega arith)
others_refused (b ∷ t) h = rw (lt-leb (suc (length t)) 0 (omega arith), lt-ltb most_before b h)

-- a count stands plainly below 128, and from there on begins with a byte of 128 or more
begins_above : (n : ℕ) (t : List ℕ) → most_before < n → most_before < first_byte (count_of n ++ t)
begins_above n t h = elim (dec_lt n 128) [
  | yes l ↦ rw (spelled_last 2 n l) h
  | no g ↦ rw (spelled_more 2 n (omega arith)) (omega arith)
]

larger_file : (list : List ℤ) → most_before < length list / 5 → before (file_of list) ≡ stopped 3 0
unfolding file_of
larger_file list h = others_refused (file_of list) (begins_above (length list / 5) _ h)

pub larger_refused : LargerRefused
larger_refused s b list at e h = ap before (reads_file s b list at e).0 ∙ larger_file list h

pub larger_written : LargerWritten
larger_written list n e h =
    let f = file_reads list n e in
    let c : verdict_of list ≡ Accepted (length list / 5) = (reads_file (file_of list) f.0 list _ f.1).1 in
    let same : n ≡ length list / 5 = cc in
    larger_file list (omega arith)

-- ---- what such a file may be now

-- n pieces, all alike
alike : ℕ → List ℤ
alike zero = []
alike (suc n) = pos 3 ∷ pos 0 ∷ pos 0 ∷ pos 1 ∷ pos 1 ∷ alike n

alike_chart : verdict_of (alike 65) ≡ Accepted 65
unfolding verdict_of pieces fault_at number_at fault_of off_range outside same_ends eq_z alike
alike_chart = refl

pub others : Others
unfolding value marked groups_at limited count_at counted kind_at stands_at joined more numbers with_length piece pieces_in ended reading_of
others = record {
  chart = (file_of (alike 65), alike 65, larger_written (alike 65) 65 alike_chart (omega arith), (file_reads (alike 65) 65 alike_chart).1);
  still = refl;
  cut = refl;
  padded = examples.count_padded;
}
