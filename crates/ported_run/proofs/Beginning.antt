-- The arrays with which a run begins: zeros, but for the ends in their order.
use mathlib.Core.Path.{◌≡◌, refl, sym, ap, ◌∙◌}
use mathlib.Core.List.{List, [], ◌++◌}
use Prim.Native.Nat.{ℕ, ◌*◌, ◌≤◌, ◌<◌}
use native.Mathlib.Omega.{arith}
use lib.IntN.{ℤ}
use lib.ListN.{length, take, drop, replicate, length-replicate}
use lib.Seq.{length-take-le, length_front, take_at}
use Rattle.line_segment.specs.Piece.{HasLength}
use Rattle.charts.specs.Chart.{most}
use Rattle.charts.specs.Answer.{room}
use Rattle.sweep.specs.Lists.{upto}
use Rattle.ported_arrays.specs.Numbers.{end_before}
use Rattle.ported_arrays.specs.Insertion.{insert_all}
use Rattle.ported_arrays.specs.Run.{blank}
use Rattle.ported_pieces.specs.Table.{piece_in, chart_in}
use Rattle.ported_run.specs.Running.{places, Begun}

abbrev pub zeros : ℕ → List ℕ
zeros k = replicate k 0

long : (k : ℕ) → length (zeros k) ≡ k
long k = length-replicate {A = ℕ} k 0

module _ (n : ℕ) (few : n ≤ most) where
  pub part_long : 2 * n ≡ length (take (2 * n) (zeros (2 * most)))
  part_long = sym (length-take-le (2 * n) (zeros (2 * most)) (omega (arith, few, long (2 * most))))

  -- the ends, ordered in the front of their array
  module _ (l : List ℕ) (e : length l ≡ length (take (2 * n) (zeros (2 * most)))) where
    pub front_within : 2 * n ≤ length (l ++ drop (2 * n) (zeros (2 * most)))
    front_within = omega (arith, few, length_front (zeros (2 * most)) l (2 * n) e, long (2 * most))

    pub front_is : take (2 * n) (l ++ drop (2 * n) (zeros (2 * most))) ≡ l
    front_is = take_at l (drop (2 * n) (zeros (2 * most))) (2 * n) (e ∙ sym part_long)

    pub front_long : 2 * n ≡ length (take (2 * n) (l ++ drop (2 * n) (zeros (2 * most))))
    front_long = rw front_is (part_long ∙ sym e)

    pub begun : (table : List ℤ) (bytes : List ℕ) → ((i : ℕ) → i < n → HasLength (piece_in table i)) → room n ≤ length bytes
        → l ≡ insert_all (end_before (chart_in n table)) [] (upto (length (take (2 * n) (zeros (2 * most)))))
        → Begun n table (take (2 * n) (l ++ drop (2 * n) (zeros (2 * most)))) (zeros most) (zeros (most * most)) (zeros places) bytes
    unfolding blank
    begun table bytes h r o =
        record {
          few = few;
          long = h;
          count = sym front_long;
          in_order = front_is ∙ o ∙ ap (λ (k : ℕ). insert_all (end_before (chart_in n table)) [] (upto k)) (sym part_long);
          actives = long most;
          free = refl;
          waits = long places;
          lists = r;
        }
