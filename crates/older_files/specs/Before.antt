-- The reader before request 2026-07, kept for the statements of `Demand` alone: a count of one plain byte, 64 pieces at most.
-- A piece was read as it is now.
use Rattle.std.specs.Prelude.{cond, List, ℕ, leb, ltb, length, get_or}
use Rattle.chart_file.specs.Reading.{Reading, stopped, pieces, ended}

-- "Up to 64 pieces"
abbrev pub most_before : ℕ
most_before = 64

-- "Count and kind stand plainly": the first byte is the count, and the pieces begin at place 1
abbrev pub first_byte : List ℕ → ℕ
first_byte s = get_or s 0 0

unfoldable pub before : List ℕ → Reading
before s =
    cond (leb (length s) 0) (stopped 1 0)
    (cond (ltb most_before (first_byte s)) (stopped 3 0)
    (ended (length s) (pieces s 1 (first_byte s))))
