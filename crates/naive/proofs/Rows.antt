-- How rows of pairs grow, how many bytes they take, and that the test counts only below the last number.
-- Assumes nothing.
use mathlib.Core.Path.{◌≡◌, refl, ap, ap₂}
use mathlib.Core.Bool.{Bool, true, false, cond}
use mathlib.Core.List.{List, [], ◌∷◌, ◌++◌, append-nil}
use Prim.Native.Nat.{ℕ, zero, suc, ◌+◌, ◌≤◌, ◌<◌}
use native.Mathlib.Omega.{arith}
use lib.ListN.{length, length-append}
use Rattle.charts.specs.Answer.{room}
use Rattle.charts.proofs.Room.{room_more}
use Rattle.naive.specs.Pairs.{Pair, row, rows, bytes}

-- ---- bytes
pub bytes_append : (ps qs : List Pair) → bytes (ps ++ qs) ≡ bytes ps ++ bytes qs
unfolding bytes
bytes_append [] qs = refl
bytes_append (p ∷ ps) qs = ap (λ (l : List ℕ). p.0 ∷ p.1 ∷ l) (bytes_append ps qs)

pub bytes_length : (ps : List Pair) → length (bytes ps) ≡ length ps + length ps
unfolding bytes
bytes_length [] = refl
bytes_length (p ∷ ps) = omega (arith, bytes_length ps)

module _ (meets : ℕ → ℕ → Bool) where
  pub row_none : (a : ℕ) → row meets a 0 ≡ []
  unfolding row
  row_none a = refl

  pub row_yes : (a b : ℕ) → meets a b ≡ true → row meets a (suc b) ≡ row meets a b ++ ((a, b) ∷ [])
  unfolding row
  row_yes a b e = rw e

  pub row_no : (a b : ℕ) → meets a b ≡ false → row meets a (suc b) ≡ row meets a b
  unfolding row
  row_no a b e = rw e (append-nil _)

  pub rows_none : rows meets 0 ≡ []
  unfolding rows
  rows_none = refl

  pub rows_more : (a : ℕ) → rows meets (suc a) ≡ rows meets a ++ row meets a a
  unfolding rows
  rows_more a = refl

  -- ---- room
  pub row_length : (a b : ℕ) → length (row meets a b) ≤ b
  unfolding row
  row_length a zero = omega arith
  row_length a (suc b) = simp length-append (omega (arith, row_length a b, one (meets a b)))
    where
      one : (t : Bool) → length {A = Pair} (cond t ((a, b) ∷ []) []) ≤ 1
      one true = omega arith
      one false = omega arith

  pub rows_length : (a : ℕ) → length (rows meets a) + length (rows meets a) ≤ room a
  unfolding rows
  rows_length zero = omega arith
  rows_length (suc a) = simp (length-append, room_more) (omega (arith, rows_length a, row_length a a))

  pub rows_room : (a : ℕ) → length (bytes (rows meets a)) ≤ room a
  rows_room a = simp bytes_length (rows_length a)

-- ---- two tests that agree below n list the same pairs
module _ (f g : ℕ → ℕ → Bool) where
  pub row_same : (a b : ℕ) → ((b' : ℕ) → b' < b → f a b' ≡ g a b') → row f a b ≡ row g a b
  unfolding row
  row_same a zero h = refl
  row_same a (suc b) h = ap₂ (λ (l : List Pair) (t : Bool). l ++ cond t ((a, b) ∷ []) []) (row_same a b (λ b' k. h b' (omega arith))) (h b (omega arith))

  pub rows_same : (n : ℕ) → ((a b : ℕ) → a < n → b < a → f a b ≡ g a b) → rows f n ≡ rows g n
  unfolding rows
  rows_same zero h = refl
  rows_same (suc n) h = ap₂ ◌++◌ (rows_same n (λ a b k l. h a b (omega arith) l)) (row_same n n (λ b l. h n b (omega arith) l))
