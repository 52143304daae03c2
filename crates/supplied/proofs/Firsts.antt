-- The first of a list stays the first however the list goes on, so the first pair found by rows is the first of all rows.
-- Assumes nothing.
use mathlib.Core.Path.{◌≡◌, sym, ap, ◌∙◌}
use mathlib.Core.Bool.{Bool, true}
use mathlib.Core.List.{List, [], ◌∷◌, ◌++◌}
use mathlib.Core.Logic.{⊎_elim}
use Prim.Native.Nat.{ℕ, zero, suc, ◌<◌}
use native.Mathlib.Nat.{eq-or-lt_of_le}
use native.Mathlib.Omega.{arith}
use Rattle.naive.specs.Pairs.{Pair, row, rows}
use Rattle.naive.proofs.Rows.{row_yes}
use Rattle.std.specs.Prelude.{Some}
use Rattle.supplied.specs.Entries.{first_of}

pub first_stays : {A : Type 0} (s t : List A) (x : A) → first_of s ≡ Some x → first_of (s ++ t) ≡ Some x
first_stays [] t x e = cc
first_stays (y ∷ s) t x e = e

module _ (test : ℕ → ℕ → Bool) where
  pub row_first : (a b c : ℕ) → row test a b ≡ [] → test a b ≡ true → b < c → first_of (row test a c) ≡ Some (a, b)
  unfolding row
  row_first a b zero e t h = absurd (omega arith)
  row_first a b (suc c) e t h =
      ⊎_elim
      (λ (q : b ≡ c). ap (λ (k : ℕ). first_of (row test a (suc k))) (sym q) ∙ ap first_of (row_yes test a b t ∙ ap (λ (l : List Pair). l ++ ((a, b) ∷ [])) e))
      (λ (l : b < c). first_stays (row test a c) _ (a, b) (row_first a b c e t l))
      (eq-or-lt_of_le {n = b} {m = c} (omega arith))

  pub rows_first : (a b n : ℕ) → rows test a ≡ [] → first_of (row test a a) ≡ Some (a, b) → a < n → first_of (rows test n) ≡ Some (a, b)
  unfolding rows
  rows_first a b zero e t h = absurd (omega arith)
  rows_first a b (suc n) e t h =
      ⊎_elim
      (λ (q : a ≡ n). ap (λ (k : ℕ). first_of (rows test (suc k))) (sym q) ∙ ap (λ (l : List Pair). first_of (l ++ row test a a)) e ∙ t)
      (λ (l : a < n). first_stays (rows test n) _ (a, b) (rows_first a b n e t l))
      (eq-or-lt_of_le {n = a} {m = n} (omega arith))

  pub rows_end : (a : ℕ) → rows test a ≡ [] → row test a a ≡ [] → rows test (suc a) ≡ []
  unfolding rows
  rows_end a e f = rw (e, f)
