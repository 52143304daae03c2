-- A listing in parts: the lines of so many pairs are a part.
-- Assumes nothing.
use Rattle.std.specs.Prelude.{Bool, cond, List, [], ◌++◌, ℕ, suc, ◌+◌, ◌*◌, ◌/◌, eqb, ℤ, length, take, drop}
use Rattle.bentley_ottmann.specs.declared.Swept.{Swept}
use Rattle.decimals.specs.Text.{ascii}
use Rattle.listing_lines.specs.Lines.{count_line, complete_line, pairs_in, pair_lines}

-- the bytes of a part's pairs, "two a pair"
abbrev pub part_bytes : ℕ
part_bytes = 160

-- every part but the last has that many, and the last has what is left, none perhaps
abbrev pub parts_of : ℕ → ℕ
parts_of bytes = suc (bytes / part_bytes)

-- the longest part: the first two lines, the lines of its pairs, and the steps
abbrev pub longest_part : ℕ
longest_part = 10 + 13 + part_bytes / 2 * 47 + 17

-- "the piece count; that nothing is missing": part 0 begins with them
unfoldable pub head_of : List ℤ → Bool → ℕ → List ℕ
head_of list complete part = cond (eqb part 0) (count_line (ascii "chart ") (length list / 5) ++ complete_line complete) []

-- "steps to the end": the last part ends with them
unfoldable pub foot_of : ℕ → ℕ → ℕ → List ℕ
foot_of steps bytes part = cond (eqb part (bytes / part_bytes)) (count_line (ascii "steps ") steps) []

-- of a list that was read with this number and swept, with the bytes of its pairs; "A refused file prints one line"
unfoldable pub part_of : ℕ → List ℤ → Swept → List ℕ → ℕ → List ℕ
part_of number list swept pairs part =
    cond (eqb number 0)
    (head_of list swept.complete part
    ++ pair_lines list (pairs_in (take part_bytes (drop (part_bytes * part) pairs)))
    ++ foot_of swept.steps (length pairs) part)
    (count_line (ascii "refused ") number)
