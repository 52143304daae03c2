-- One turn of each loop over the pairs. The lent bytes are o; the rows below a made them p, with j pairs; row a, as far
-- as b, makes them q, with k pairs.
-- Assumes nothing.
use mathlib.Core.Path.{◌≡◌, refl, ap, ◌∙◌}
use mathlib.Core.Bool.{Bool, true, false}
use mathlib.Core.List.{List, [], ◌∷◌}
use Prim.Native.Nat.{ℕ, ◌+◌, ◌*◌, ◌≤◌, ◌<◌}
use native.Mathlib.Numerals.{add-one}
use native.Mathlib.Omega.{arith}
use lib.ListN.{length, set, length-append}
use lib.Seq.{sets, length-sets}
use Rattle.charts.specs.Answer.{room}
use Rattle.charts.proofs.Room.{room_below}
use Rattle.naive.specs.Pairs.{row, rows, bytes, over}
use Rattle.naive.proofs.Rows.{bytes_append, bytes_length, row_none, row_yes, row_no, rows_none, rows_more, row_length, rows_length, rows_room}
use Rattle.charts.proofs.Stores.{sets_append}
use Rattle.naive.proofs.Writes.{sets_over}

no_bytes : bytes [] ≡ []
unfolding bytes
no_bytes = refl

two_bytes : (a b : ℕ) → bytes ((a, b) ∷ []) ≡ a ∷ b ∷ []
unfolding bytes
two_bytes a b = refl

module _ (meets : ℕ → ℕ → Bool) where
  -- ---- before the first turn
  pub rows_begin : (o : List ℕ) → (0 ≡ length (rows meets 0)) × (o ≡ sets o 0 (bytes (rows meets 0)))
  rows_begin o = rw (rows_none, no_bytes) (refl, refl)

  pub row_begins : (p : List ℕ) (a j : ℕ) → (j ≡ j + length (row meets a 0)) × (p ≡ sets p (2 * j) (bytes (row meets a 0)))
  row_begins p a j = rw (row_none, no_bytes) (omega arith, refl)

  module _ (p q : List ℕ) (a b j k : ℕ) (counted : k ≡ j + length (row meets a b)) (written : q ≡ sets p (2 * j) (bytes (row meets a b))) where
    -- ---- a pair that meets, and one that does not
    pub pair_listed : meets a b ≡ true
        → (k + 1 ≡ j + length (row meets a (b + 1))) × (set (set q (2 * k) a) (2 * k + 1) b ≡ sets p (2 * j) (bytes (row meets a (b + 1))))
    pair_listed e =
        let at : 2 * k ≡ 2 * j + length (bytes (row meets a b)) = omega (arith, bytes_length (row meets a b)) in (
          rw (add-one b, row_yes meets a b e, length-append) (omega arith),
          rw (add-one b, row_yes meets a b e, bytes_append, two_bytes, sets_append, ← written, ← at, add-one),
        )

    pub pair_passed : meets a b ≡ false
        → (k ≡ j + length (row meets a (b + 1))) × (q ≡ sets p (2 * j) (bytes (row meets a (b + 1))))
    pair_passed e = rw (add-one, row_no meets a b e) (counted, written)

    module _ (o : List ℕ) (counted_before : j ≡ length (rows meets a)) (written_before : p ≡ sets o 0 (bytes (rows meets a))) where
      -- ---- two bytes more have room
      pub has_room : (n : ℕ) → b < a → a < n → room n ≤ length o → (2 * k + 2 ≤ length q) × (length q ≡ length o)
      has_room n h l lent =
          let q_length : length q ≡ length p = ap length written ∙ length-sets p (2 * j) (bytes (row meets a b)) in
          let p_length : length p ≡ length o = ap length written_before ∙ length-sets o 0 (bytes (rows meets a)) in
          omega (arith, row_length meets a b, rows_length meets a, room_below a n l)

      -- ---- the row is full
      pub row_full : b ≡ a → (k ≡ length (rows meets (a + 1))) × (q ≡ sets o 0 (bytes (rows meets (a + 1))))
      row_full e =
          let at : 2 * j ≡ 0 + length (bytes (rows meets a)) = omega (arith, bytes_length (rows meets a)) in (
            rw (add-one, rows_more, length-append, ← counted_before) (rw e at counted),
            rw (add-one, rows_more, bytes_append, sets_append, ← written_before, ← at) (rw e at written),
          )

  -- ---- after the last turn
  pub rows_end : (o p : List ℕ) (n : ℕ) → room n ≤ length o → p ≡ sets o 0 (bytes (rows meets n)) → p ≡ over (bytes (rows meets n)) o
  rows_end o p n lent written = written ∙ sets_over o (bytes (rows meets n)) (omega (arith, rows_room meets n))
