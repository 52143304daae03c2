-- Every listing fits into the bytes of the longest text.
-- Assumes nothing.
use mathlib.Core.Path.{◌≡◌, refl}
use mathlib.Core.List.{List, [], ◌∷◌}
use mathlib.Core.List.Memᴰ.{head as here}
use mathlib.Core.List.Memᴰ.{tail as there}
use mathlib.Core.List.{Memᴰ as In}
use Prim.Native.Nat.{ℕ, ◌*◌, ◌/◌, ◌≤◌, ◌<◌}
use native.Mathlib.Omega.{arith}
use lib.IntN.{ℤ}
use lib.ListN.{length, length-append}
use Rattle.charts.specs.Chart.{verdict_of}
use Rattle.charts.specs.Piece.{piece_at}
use Rattle.charts.specs.Verdict.{Accepted}
use Rattle.charts.proofs.Accepted.{accepted_most, pieces_have_length}
use Rattle.chart_file.specs.Reading.{Reading, due, stopped, reading_of}
use Rattle.chart_file.proofs.Files.{reads_file}
use Rattle.chart_file.proofs.Refusals.{refused_few}
use Rattle.place.specs.Place.{where_of}
use Rattle.place.proofs.Given.{given_in_range}
use Rattle.sweep.specs.Lists.{Pair}
use Rattle.full_steps.specs.Steps.{answer}
use Rattle.full_order.specs.Finer.{finer}
use Rattle.decimals.specs.Text.{ascii}
use Rattle.listing_lines.specs.Lines.{count_line, pair_line, pair_lines}
use Rattle.listing.specs.Listing.{largest, chart_lines, chart_text, text_of, listing_of, longest_text}
use Rattle.listing.specs.Demand.{Fits}
use Rattle.listing_lines.proofs.Widths.{count_width, complete_width, pair_width}
use Rattle.listing.proofs.Counts.{most_room, room_few, lists_only, listed_few, steps_few}

-- ---- a chart
module _ (list : List ℤ) (n : ℕ) (e : verdict_of list ≡ Accepted n) where
  line_width : (q : Pair) → (q.0 < q.1) × (q.1 < n) → length (pair_line (where_of (piece_at list q.0) (piece_at list q.1)) q.0 q.1) ≤ 47
  line_width q h =
      let few = accepted_most list n e in
      pair_width (piece_at list q.0) (piece_at list q.1) q.0 q.1
      (pieces_have_length list n q.0 e (omega arith)) (pieces_have_length list n q.1 e h.1)
      (given_in_range list q.0) (given_in_range list q.1) (omega arith) (omega arith)

  pub lines_width : (ps : List Pair) → ((q : Pair) → In q ps → (q.0 < q.1) × (q.1 < n)) → length (pair_lines list ps) ≤ 47 * length ps
  unfolding pair_lines
  lines_width [] h = omega arith
  lines_width (q ∷ ps) h =
      omega (
        arith,
        length-append (pair_line (where_of (piece_at list q.0) (piece_at list q.1)) q.0 q.1) (pair_lines list ps),
        line_width q (h q (here refl)),
        lines_width ps (λ r m. h r (there m)),
      )

  chart_fits : length (chart_text list n) ≤ longest_text
  unfolding chart_text chart_lines ascii
  chart_fits =
      let swept = answer (finer n (piece_at list)) largest in
      rw (length-append, length-append, length-append)
      (omega (
        arith,
        count_width (ascii "chart ") n 2 (omega (arith, accepted_most list n e)),
        complete_width swept.complete,
        lines_width swept.listed (λ q m. (lists_only list n e largest q m).0),
        listed_few list n e largest,
        room_few list n e,
        most_room,
        count_width (ascii "steps ") swept.steps 9 (omega (arith, steps_few list n e largest, most_room)),
      ))

-- ---- a refusal, whose number has one digit
refusal_fits : (f : ℕ) → f ≤ 7 → length (count_line (ascii "refused ") f) ≤ longest_text
unfolding ascii
refusal_fits f h = omega (arith, count_width (ascii "refused ") f 0 (omega arith))

pub fits : Fits
unfolding listing_of text_of
fits file b = go (reading_of file) refl
  where
    go : (r : Reading) → reading_of file ≡ r → length (text_of r) ≤ longest_text
    go (due list at) e = chart_fits list (length list / 5) (reads_file file b list at e).1
    go (stopped f p) e = refusal_fits f (refused_few file b f p e).1
