-- A chart that was read has no more pieces than a chart may have.
use mathlib.Core.Path.{◌≡◌, refl, ap, ◌∙◌}
use mathlib.Core.List.{List, [], ◌∷◌}
use Prim.Native.Nat.{ℕ, suc, ◌*◌, ◌/◌, ◌≤◌, ◌<◌, zero-le}
use lib.IntN.{ℤ}
use lib.ListN.{length, get_or}
use Rattle.charts.specs.Chart.{most}
use Rattle.charts.specs.declared.Answer.{Answer}
use Rattle.charts.proofs.Accepted.{accepted_most}
use Rattle.chart_file.specs.Groups.{Bytes}
use Rattle.chart_file.specs.Reading.{Reading, due, stopped, reading_of, answer_of, Reads}
use Rattle.chart_file.proofs.Files.{reads_file}
use Rattle.chart_file.proofs.Whole.{lent_exactly}

pub bytes_given : (s : List ℕ) → ((i : ℕ) → get_or s i 0 < 256) → Bytes s
bytes_given [] h = tt
bytes_given (b ∷ s) h = (h 0, bytes_given s (λ i. h (suc i)))

pub read_most : (s : List ℕ) (list : List ℤ) (r : Answer) (after : List ℤ) → Bytes s → 5 * most ≤ length list → Reads s list r after → r.count ≤ most
unfolding answer_of
read_most s list r after b h w = rw (ap (λ (a : Answer). a.count) (w.answer ∙ ap answer_of ((lent_exactly (length list) s).1 h))) (of (reading_of s) (λ xs at e. accepted_most xs (length xs / 5) (reads_file s b xs at e).1))
  where
    of : (q : Reading) → ((xs : List ℤ) (at : ℕ) → q ≡ due xs at → length xs / 5 ≤ most) → (answer_of q).count ≤ most
    of (due xs at) k = k xs at refl
    of (stopped f p) k = zero-le
