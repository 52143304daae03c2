-- What is promised of files from before request 2026-07, and of newer files before an old reader.
use Rattle.std.specs.Prelude.{◌≡◌, List, [], ◌∷◌, ℕ, ◌/◌, ◌≤◌, ◌<◌, ℤ, length}
use Rattle.charts.specs.Chart.{verdict_of}
use Rattle.charts.specs.Verdict.{Accepted}
use Rattle.chart_file.specs.Groups.{Bytes}
use Rattle.chart_file.specs.Format.{file_of}
use Rattle.chart_file.specs.Reading.{due, stopped, reading_of}
use Rattle.older_files.specs.Before.{most_before, first_byte, before}

-- "Every old file reads as before": one that begins with 64 or less and was read gives the same list,
abbrev pub ReadsAsBefore : Type 0
ReadsAsBefore = (s : List ℕ) → first_byte s ≤ most_before → (list : List ℤ) (at : ℕ) → before s ≡ due list at → reading_of s ≡ due list at

-- and one that was refused has the same number and place
abbrev pub RefusedAsBefore : Type 0
RefusedAsBefore = (s : List ℕ) → first_byte s ≤ most_before → (number place : ℕ) → before s ≡ stopped number place → reading_of s ≡ stopped number place

-- "An old reader answers a larger file with 3": whatever is read now, and has more than 64 pieces,
abbrev pub LargerRefused : Type 0
LargerRefused = (s : List ℕ) → Bytes s → (list : List ℤ) (at : ℕ) → reading_of s ≡ due list at → most_before < length list / 5 → before s ≡ stopped 3 0

-- and so whatever is written of more than 64 pieces
abbrev pub LargerWritten : Type 0
LargerWritten = (list : List ℤ) (n : ℕ) → verdict_of list ≡ Accepted n → most_before < n → before (file_of list) ≡ stopped 3 0

-- Nothing else is promised of a file that begins with 65 or more: it was 3, whatever followed,
abbrev pub OthersRefused : Type 0
OthersRefused = (s : List ℕ) → most_before < first_byte s → before s ≡ stopped 3 0

-- and may now be a chart, or refused with 3 still, or otherwise
pub record Others : Type 0 where
  pub chart : (s : List ℕ) × (list : List ℤ) × (before s ≡ stopped 3 0) × (reading_of s ≡ due list (length s))
  pub still : reading_of (0xff ∷ 0x01 ∷ []) ≡ stopped 3 0
  pub cut : reading_of (0x41 ∷ []) ≡ stopped 1 1
  pub padded : reading_of (0x80 ∷ 0x00 ∷ []) ≡ stopped 2 0
