-- How much of an input decides what the reader makes of it.
use Rattle.std.specs.Prelude.{◌≡◌, List, ℕ, suc, ◌≤◌, take}
use Rattle.chart_file.specs.Format.{longest}
use Rattle.chart_file.specs.Reading.{reading_of}

-- the longest file and one byte more: whoever reads so much of an input that goes on has read enough of it
abbrev pub DecidedEarly : Type 0
DecidedEarly = (s : List ℕ) (k : ℕ) → suc longest ≤ k → reading_of (take k s) ≡ reading_of s
