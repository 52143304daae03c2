-- What the reader's answer and list say of a file: it is refused with that number, or its chart stands in front of the list.
-- Assumes nothing.
use mathlib.Core.Path.{◌≡◌, refl, sym, ap, ◌∙◌}
use mathlib.Core.List.{List}
use Prim.Native.Nat.{ℕ, ◌*◌, ◌/◌, ◌≤◌}
use native.Mathlib.Omega.{arith}
use lib.IntN.{ℤ}
use lib.ListN.{length, take, drop}
use lib.Seq.{take_at}
use Rattle.charts.specs.Chart.{most, verdict_of}
use Rattle.charts.specs.Demand.{Due, done}
use Rattle.charts.specs.declared.Answer.{Answer}
use Rattle.charts.specs.Verdict.{Accepted}
use Rattle.charts.proofs.Exactly.{refuses_exactly}
use Rattle.chart_file.specs.Groups.{Bytes}
use Rattle.chart_file.specs.Reading.{Reading, due, stopped, reading_of, answer_of, content_of, Reads}
use Rattle.chart_file.proofs.Files.{reads_file}
use Rattle.chart_file.proofs.Refusals.{refused_few}
use Rattle.chart_file.proofs.Whole.{lent_exactly}

-- the file reads as the chart in front of the list
pub record Charted (s : List ℕ) (after : List ℤ) (n : ℕ) : Type 0 where
  pub at : ℕ
  pub reads : reading_of s ≡ due (take (5 * n) after) at
  pub count : length (take (5 * n) after) / 5 ≡ n
  pub accepted : verdict_of (take (5 * n) after) ≡ Accepted (length (take (5 * n) after) / 5)

whole : {xs : List ℤ} {n : ℕ} → Due xs (Accepted n) → length xs ≡ 5 * n
whole (done n l m h) = l

module _ (s : List ℕ) (b : Bytes s) (list : List ℤ) (lent : 5 * most ≤ length list) (r : Answer) (after : List ℤ) (w : Reads s list r after) where
  answers : r ≡ answer_of (reading_of s)
  answers = w.answer ∙ ap answer_of ((lent_exactly (length list) s).1 lent)

  holds : after ≡ content_of (reading_of s) list
  holds = w.content ∙ ap (λ (q : Reading). content_of q list) ((lent_exactly (length list) s).1 lent)

  pub refused : (r.number ≡ 0 → ⊥) → reading_of s ≡ stopped r.number r.place
  unfolding answer_of
  refused z = go (reading_of s) answers
    where
      go : (q : Reading) → r ≡ answer_of q → q ≡ stopped r.number r.place
      go (due xs at) e = absurd (z (ap (λ (a : Answer). a.number) e))
      go (stopped f p) e = sym (rw e refl)

  -- and no piece is counted
  pub uncounted : (r.number ≡ 0 → ⊥) → r.count ≡ 0
  unfolding answer_of
  uncounted z = go (reading_of s) answers
    where
      go : (q : Reading) → r ≡ answer_of q → r.count ≡ 0
      go (due xs at) e = absurd (z (ap (λ (a : Answer). a.number) e))
      go (stopped f p) e = ap (λ (a : Answer). a.count) e

  pub charted : r.number ≡ 0 → Charted s after r.count
  unfolding answer_of content_of
  charted z = go (reading_of s) refl answers holds
    where
      go : (q : Reading) → reading_of s ≡ q → r ≡ answer_of q → after ≡ content_of q list → Charted s after r.count
      go (stopped f p) e a h = absurd (omega (arith, refused_few s b f p e, ap (λ (a : Answer). a.number) a, z))
      go (due xs at) e a h =
          let v = (reads_file s b xs at e).1 in
          let l : length xs ≡ 5 * r.count = rw (ap (λ (a : Answer). a.count) a) (whole ((refuses_exactly xs (Accepted (length xs / 5))).0 v)) in
          let front : take (5 * r.count) after ≡ xs = ap (take (5 * r.count)) h ∙ take_at xs (drop (length xs) list) (5 * r.count) l in
          record { at = at; reads = rw front e; count = rw front (omega arith); accepted = rw front v }
