-- The listing of a chart file: the text that the chart program prints.
-- Assumes nothing.
use Rattle.std.specs.Prelude.{Bool, cond, List, ◌++◌, ℕ, suc, ◌+◌, ◌*◌, ◌-◌, ◌/◌, ltb, ℤ, length, drop}
use Rattle.charts.specs.Chart.{most}
use Rattle.charts.specs.Piece.{piece_at}
use Rattle.charts.specs.Answer.{done_with, refused_with}
use Rattle.charts.specs.declared.Answer.{Answer}
use Rattle.chart_file.specs.Format.{longest}
use Rattle.chart_file.specs.Reading.{Reading, due, stopped, reading_of}
use Rattle.sweep.specs.Lists.{Pair}
use Rattle.full_steps.specs.Steps.{answer}
use Rattle.full_order.specs.Finer.{finer}
use Rattle.decimals.specs.Text.{ascii}
use Rattle.listing_lines.specs.Lines.{count_line, complete_line, pair_lines}

-- "the piece count; that nothing is missing; per pair in sweep order ..; steps to the end"
unfoldable pub chart_lines : List ℤ → ℕ → Bool → List Pair → ℕ → List ℕ
chart_lines list n complete listed steps =
    count_line (ascii "chart ") n ++ complete_line complete ++ pair_lines list listed ++ count_line (ascii "steps ") steps

-- the largest budget of a sweep, which no chart uses up
abbrev pub largest : ℕ
largest = 4294967295

-- of a list of n pieces, swept in the new mode
unfoldable pub chart_text : List ℤ → ℕ → List ℕ
chart_text list n =
    let swept = answer (finer n (piece_at list)) largest in
    chart_lines list n swept.complete swept.listed swept.steps

-- "A refused file prints one line, `refused` and the number."
unfoldable pub text_of : Reading → List ℕ
text_of (due list at) = chart_text list (length list / 5)
text_of (stopped number place) = count_line (ascii "refused ") number

unfoldable pub listing_of : List ℕ → List ℕ
listing_of file = text_of (reading_of file)

-- one byte more than the longest file: so much of an input decides its listing
abbrev pub deciding : ℕ
deciding = suc longest

-- the longest text: "chart 200", "complete yes", a line for every pair, such as "pair 198 199 along -32767 -32767 -32766 -32766",
-- which is longer than any "pair 198 199 at -32767 -32766 -32767 -32766", and the steps, of at most ten digits
abbrev pub longest_text : ℕ
longest_text = 10 + 13 + most * (most - 1) / 2 * 47 + 17

-- ---- the call on lent bytes

-- "8: lent room too small"; done, the count of bytes
unfoldable pub listing_answer : List ℕ → ℕ → Answer
listing_answer file lent = cond (ltb lent longest_text) (refused_with 8 0) (done_with (length (listing_of file)))

-- bytes past the text keep their values, and a refusal writes nothing
unfoldable pub lent_after : List ℕ → List ℕ → List ℕ
lent_after file lent = cond (ltb (length lent) longest_text) lent (listing_of file ++ drop (length (listing_of file)) lent)
