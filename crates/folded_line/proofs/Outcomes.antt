-- What a call answers and leaves, by the verdict on its numbers and its room.
-- Assumes nothing.
use mathlib.Core.Path.{◌≡◌, refl, ap, ◌∙◌}
use mathlib.Core.List.{List}
use Prim.Native.Nat.{ℕ, ◌*◌, ◌≤◌}
use native.Mathlib.Omega.{arith}
use lib.IntN.{ℤ}
use lib.ListN.{length}
use lib.Seq.{sets}
use Rattle.charts.specs.Answer.{done_with, refused_with}
use Rattle.charts.specs.declared.Answer.{Answer}
use Rattle.charts.specs.Verdict.{Accepted, Refused}
use Rattle.folded_line.specs.Line.{count, fives, line}
use Rattle.folded_line.specs.Drawing.{most_pieces, drawing_of, Draws, Sized}
use Rattle.charts.proofs.Stores.{sets_front}
use Rattle.folded_line.proofs.Stores.{fives_length}
use Rattle.folded_line.proofs.Verdicts.{goes, sized, room_goes}

module _ (m h s : ℕ) (lent : List ℤ) where
  -- what is known where the call goes ahead
  pub record Ahead (n : ℕ) : Type 0 where
    pub small : Sized m h s
    pub counting : n ≡ count m h s
    pub few : n ≤ most_pieces
    pub room : 5 * n ≤ length lent

  pub ahead : (n : ℕ) → drawing_of m h s (length lent) ≡ Accepted n → Ahead n
  ahead n e =
      let r = room_goes m h s (length lent) n e in
      let g = goes m h s n r.0 in
      record { small = sized m h s g.ranged; counting = g.counting; few = g.few; room = r.1 }

  pub line_length : length (line m h s) ≡ 5 * count m h s
  unfolding line
  line_length = fives_length m h s (count m h s) (count m h s)

  pub draws_refused : (r : Answer) (k p : ℕ) → drawing_of m h s (length lent) ≡ Refused k p → r ≡ refused_with k p → Draws m h s lent r lent
  draws_refused r k p e a = record { answer = rw e a; content = rw e refl }

  pub draws_done : (r : Answer) (after : List ℤ) (n : ℕ) → drawing_of m h s (length lent) ≡ Accepted n → r ≡ done_with n
      → after ≡ sets lent 0 (fives m h s n n) → Draws m h s lent r after
  unfolding line
  draws_done r after n e a w =
      let g = ahead n e in
      record {
        answer = rw e a;
        content = rw e (w ∙ ap (λ (k : ℕ). sets lent 0 (fives m h s k k)) g.counting ∙ sets_front lent (line m h s) (let l = line_length in let q = g.counting in let t = g.room in omega arith));
      }
