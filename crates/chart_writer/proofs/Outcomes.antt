-- What a call of the writer answers and leaves, by the verdict on its list and its room.
use mathlib.Core.Path.{◌≡◌, refl, ap, ◌∙◌}
use mathlib.Core.List.{List, ◌++◌}
use Prim.Native.Nat.{ℕ, ◌+◌, ◌*◌, ◌/◌, ◌^◌, ◌≤◌, ◌<◌}
use native.Mathlib.Omega.{arith}
use lib.IntN.{ℤ}
use lib.ListN.{length, length-append}
use lib.Seq.{sets}
use Rattle.charts.specs.Chart.{verdict_of}
use Rattle.charts.specs.Answer.{done_with, refused_with}
use Rattle.charts.specs.Demand.{Due, done}
use Rattle.charts.specs.declared.Answer.{Answer}
use Rattle.charts.specs.Verdict.{Accepted, Refused}
use Rattle.charts.proofs.Accepted.{accepted_most}
use Rattle.charts.proofs.Exactly.{refuses_exactly}
use Rattle.charts.proofs.Lent.{room_goes}
use Rattle.charts.proofs.Stores.{sets_append, sets_front}
use Rattle.chart_file.specs.Format.{groups, bytes_from, count_of, file_of, longest}
use Rattle.chart_file.proofs.Files.{chart_ranges}
use Rattle.chart_file.proofs.Longest.{file_no_longer}
use Rattle.chart_writer.specs.Writing.{writing_of, Writes, InRanges}

-- an accepted list has five numbers a piece
pub accepted_fives : (list : List ℤ) (n : ℕ) → verdict_of list ≡ Accepted n → length list ≡ 5 * n
accepted_fives list n e = go ((refuses_exactly list (Accepted n)).0 e)
  where
    go : Due list (Accepted n) → length list ≡ 5 * n
    go (done n q h s) = q

module _ (list : List ℤ) (lent : List ℕ) where
  -- what is known where the writing goes ahead
  pub record Goes (n : ℕ) : Type 0 where
    pub accepted : verdict_of list ≡ Accepted n
    pub count : n ≡ length list / 5
    pub small : n < 128 ^ groups
    pub file : count_of n ++ bytes_from 0 list ≡ file_of list
    pub ranges : InRanges list
    pub room : longest ≤ length lent
    pub fits : length (file_of list) ≤ length lent

  pub goes : (n : ℕ) → writing_of list (length lent) ≡ Accepted n → Goes n
  unfolding writing_of file_of
  goes n e =
      let g = room_goes list (λ n. longest) (length lent) n e in
      let c : n ≡ length list / 5 = omega (arith, accepted_fives list n g.0) in
      record {
        accepted = g.0;
        count = c;
        file = ap (λ (k : ℕ). count_of k ++ bytes_from 0 list) c;
        small = omega (arith, accepted_most list n g.0);
        ranges = record { ranged = chart_ranges list n g.0 };
        room = g.1;
        fits = omega (arith, g.1, file_no_longer list n g.0);
      }

  pub writes_refused : (r : Answer) (k p : ℕ) → writing_of list (length lent) ≡ Refused k p → r ≡ refused_with k p → Writes list lent r lent
  writes_refused r k p e a = record { answer = rw e a; content = rw e refl }

  -- the count, and then the numbers
  pub writes_done : (r : Answer) (after between : List ℕ) (n next m : ℕ) → writing_of list (length lent) ≡ Accepted n → r ≡ done_with m
      → next ≡ 0 + length (count_of n) → between ≡ sets lent 0 (count_of n)
      → m ≡ next + length (bytes_from 0 list) → after ≡ sets between next (bytes_from 0 list) → Writes list lent r after
  writes_done r after between n next m e a p b q w =
      let g = goes n e in
      record {
        answer = rw e (a ∙ ap done_with (omega (arith, p, q, ap length g.file, length-append (count_of n) (bytes_from 0 list))));
        content = rw e (w ∙ rw (b, p, ← sets_append, g.file) (sets_front lent (file_of list) g.fits));
      }
