-- The promises of the reader.
-- Assumes nothing.
use mathlib.Core.Path.{◌≡◌, refl, ap, ◌∙◌}
use mathlib.Core.Logic.{◌⊎◌, inl, inr}
use mathlib.Core.Bool.{Bool, true, false}
use mathlib.Core.List.{List, ◌++◌}
use Prim.Native.Nat.{ℕ, ◌*◌, ◌/◌, ◌≤◌, ◌<◌}
use native.Mathlib.Omega.{arith}
use borrow.Author.Tests.{ltb-true, ltb-false}
use lib.Dec.{ltb}
use lib.IntN.{ℤ}
use lib.ListN.{length, drop}
use Rattle.charts.specs.declared.Answer.{Answer}
use Rattle.charts.specs.Verdict.{Accepted}
use Rattle.charts.specs.Answer.{refused_with}
use Rattle.charts.specs.Chart.{most}
use Rattle.charts.specs.Demand.{Due, done}
use Rattle.charts.proofs.Exactly.{refuses_exactly}
use Rattle.chart_file.specs.Groups.{Bytes}
use Rattle.chart_file.specs.Format.{file_of}
use Rattle.chart_file.specs.Reading.{Reading, due, stopped, reading_of, lent_reading, answer_of, content_of, Reads}
use Rattle.chart_file.specs.Demand as file
use Rattle.chart_file.proofs.Files.{reads_exactly, reads_file, file_reads}
use Rattle.chart_file.proofs.Refusals.{refused_few}
use Rattle.chart_file.proofs.Whole.{lent_exactly}
use Rattle.file_reader.proofs.read.Reads as read
use Rattle.chart_c.proofs.mirtalughe_read.Reads as read_c
use Rattle.pair_promises.specs.Reader.{Holds, Input, Refuse, room, fault, Accept, Refusals, ReaderPromises}
use Rattle.promises.proofs.Refusing.{refusing}

-- ---- the contracts of `read` and of `mirtalughe_read` allow the same outcomes
pub allows_read : (κ : _) (a : _) (r : _) (s : _) → read.Post κ a r s → Reads a.0.now a.1.0.now r s.1.0.now
allows_read κ a r s h = h

pub allows_read_c : (κ : _) (a : _) (r : _) (s : _) → read_c.Post κ a r s → Reads a.0.now a.1.0.now r s.1.0.now
allows_read_c κ a r s h = h

-- ---- the reading that an outcome tells
module _ (s : List ℕ) (list : List ℤ) (r : Answer) (after : List ℤ) (o : Reads s list r after) where
  refused : (k p : ℕ) → lent_reading (length list) s ≡ stopped k p → (r ≡ refused_with k p) × (after ≡ list)
  unfolding answer_of content_of
  refused k p e =
      let f : r ≡ refused_with k p = o.answer ∙ ap answer_of e in
      let g : after ≡ list = o.content ∙ ap (λ (w : Reading). content_of w list) e in
      (f, g)

  finished : (xs : List ℤ) (at n : ℕ) → lent_reading (length list) s ≡ due xs at → length xs ≡ 5 * n → (r.number ≡ 0) × (r.place ≡ 0) × Holds list n xs r after
  unfolding answer_of content_of
  finished xs at n e l =
      let f = o.answer ∙ ap answer_of e in
      let g : after ≡ xs ++ drop (length xs) list = o.content ∙ ap (λ (w : Reading). content_of w list) e in (
        ap (λ (a : Answer). a.number) f,
        ap (λ (a : Answer). a.place) f,
        record {
          count = ap (λ (a : Answer). a.count) f ∙ ap (λ (m : ℕ). m / 5) l ∙ omega arith;
          content = g ∙ ap (λ (m : ℕ). xs ++ drop m list) l;
        },
      )

-- ---- the chart that was read
chart_long : (chart : List ℤ) (n : ℕ) → Due chart (Accepted n) → length chart ≡ 5 * n
chart_long chart n (done _ l _ _) = l

decided : (i : Input) → Accept i ⊎ ((k : ℕ) × (p : ℕ) × (0 < k) × Refuse i k p)
decided i = ask (ltb (length i.list) (5 * most)) refl
  where
    go : 5 * most ≤ length i.list → (w : Reading) → reading_of i.file ≡ w → Accept i ⊎ ((k : ℕ) × (p : ℕ) × (0 < k) × Refuse i k p)
    go h (due xs at) e = inl (record { room = h; chart = xs; end = at; due = (reads_exactly i.file i.bytes (due xs at)).0 e })
    go h (stopped k p) e = inr (k, p, (refused_few i.file i.bytes k p e).0, fault k p h ((reads_exactly i.file i.bytes (stopped k p)).0 e))

    ask : (t : Bool) → ltb (length i.list) (5 * most) ≡ t → Accept i ⊎ ((k : ℕ) × (p : ℕ) × (0 < k) × Refuse i k p)
    ask true e = inr (8, 0, omega arith, room (ltb-true _ _ e))
    ask false e = go (ltb-false _ _ e) (reading_of i.file) refl

as_refused : (i : Input) (r : Answer) (after : List ℤ) → Reads i.file i.list r after → (k p : ℕ) → Refuse i k p → (r ≡ refused_with k p) × (after ≡ i.list)
as_refused i r after o k p (room h) = refused i.file i.list r after o 8 0 ((lent_exactly (length i.list) i.file).0 h)
as_refused i r after o k p (fault _ _ h d) = refused i.file i.list r after o k p ((lent_exactly (length i.list) i.file).1 h ∙ (reads_exactly i.file i.bytes (stopped k p)).1 d)

-- an accepted file, its chart, and what is held then
pub record Read (i : Input) (r : Answer) (after : List ℤ) : Type 0 where
  pub n : ℕ
  pub chart : List ℤ
  pub sound : Due chart (Accepted n)
  pub file : i.file ≡ file_of chart
  pub told : (r.number ≡ 0) × (r.place ≡ 0) × Holds i.list n chart r after

as_read : (i : Input) (r : Answer) (after : List ℤ) → Reads i.file i.list r after → Accept i → Read i r after
as_read i r after o c =
    let e = (reads_exactly i.file i.bytes (due c.chart c.end)).1 c.due in
    let f = reads_file i.file i.bytes c.chart c.end e in
    let d = (refuses_exactly c.chart (Accepted (length c.chart / 5))).0 f.1 in
    record {
      n = length c.chart / 5;
      chart = c.chart;
      sound = d;
      file = f.0;
      told = finished i.file i.list r after o c.chart c.end (length c.chart / 5) ((lent_exactly (length i.list) i.file).1 c.room ∙ e) (chart_long c.chart (length c.chart / 5) d);
    }

refusals : Refusals Reads
refusals =
    refusing decided
    (λ i o a k p d. let t = as_refused i o.0 o.1 a k p d in λ j. (t.0 j, t.1 j))
    (λ i o a c. let t = (as_read i o.0 o.1 a c).told in (t.0, t.1))
    (λ i k p. (refl, refl))

pub reader_promises : ReaderPromises Reads
reader_promises =
    record {
      reads_chart = λ s list r after b o z.
          let i : Input = record { file = s; bytes = b; list = list } in
          let t = as_read i r after o ((refusals.done_exactly i (r, after) o).0.0 z) in
          (t.n, t.chart, t.sound, t.file, t.told.2);
      reads_every = λ chart n list r after d h o.
          let e = file_reads chart n ((refuses_exactly chart (Accepted n)).1 d) in
          let t = finished (file_of chart) list r after o chart (length (file_of chart)) n ((lent_exactly (length list) (file_of chart)).1 h ∙ e.1) (chart_long chart n d) in
          (t.0, t.2);
      refusals = refusals;
    }
