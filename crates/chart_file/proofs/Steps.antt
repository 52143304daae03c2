-- How a reading goes on from number to number and from piece to piece, and that a refusal stays.
use mathlib.Core.Path.{◌≡◌, ap, ◌∙◌}
use mathlib.Core.List.{List, [], ◌∷◌, ◌++◌}
use Prim.Native.Nat.{ℕ, zero, suc, ◌≤◌, ◌<◌}
use native.Mathlib.Decide.{dec_lt}
use native.Mathlib.Omega.{arith}
use borrow.Author.Tests.{eq-eqb, ne_eqb}
use lib.IntN.{ℤ}
use Rattle.charts.specs.Chart.{fault_at}
use Rattle.chart_file.specs.Found.{Read, Refused}
use Rattle.chart_file.specs.Reading.{Reading, due, stopped, stands_at, joined, more, numbers, with_length, piece, pieces}

-- ---- the numbers of a piece

pub number_read : (s : List ℕ) (c : ℕ) (r : Reading) (xs : List ℤ) (at : ℕ) (v : ℤ) (next : ℕ)
    → numbers s c r ≡ due xs at → stands_at s c at ≡ Read v next → numbers s (suc c) r ≡ due (xs ++ (v ∷ [])) next
unfolding numbers more joined
number_read s c r xs at v next e n = rw (e, n)

pub number_refused : (s : List ℕ) (c : ℕ) (r : Reading) (xs : List ℤ) (at f : ℕ)
    → numbers s c r ≡ due xs at → stands_at s c at ≡ Refused f → numbers s (suc c) r ≡ stopped f at
unfolding numbers more joined
number_refused s c r xs at f e n = rw (e, n)

pub numbers_stay : (s : List ℕ) (c j : ℕ) (r : Reading) (f q : ℕ) → numbers s c r ≡ stopped f q → c ≤ j → numbers s j r ≡ stopped f q
unfolding numbers more
numbers_stay s c zero r f q e h = let z : 0 ≡ c = omega arith in ap (λ (k : ℕ). numbers s k r) z ∙ e
numbers_stay s c (suc j) r f q e h = elim (dec_lt c (suc j)) [
  | yes l ↦ rw (numbers_stay s c j r f q e (omega arith))
  | no l ↦ let z : suc j ≡ c = omega arith in ap (λ (k : ℕ). numbers s k r) z ∙ e
]

-- ---- the pieces

module _ (s : List ℕ) (from p : ℕ) (xs : List ℤ) (start : ℕ) (b : pieces s from p ≡ due xs start) where
  pub piece_refused : (f q : ℕ) → numbers s 5 (pieces s from p) ≡ stopped f q → pieces s from (suc p) ≡ stopped f q
  unfolding pieces piece with_length
  piece_refused f q e = rw (b, rw b at e)

  pub piece_short : (ys : List ℤ) (at : ℕ) → numbers s 5 (pieces s from p) ≡ due ys at → (fault_at ys p ≡ 0 → ⊥) → pieces s from (suc p) ≡ stopped 6 start
  unfolding pieces piece with_length
  piece_short ys at e z = rw (b, rw b at e, ne_eqb (fault_at ys p) 0 z)

  pub piece_read : (ys : List ℤ) (at : ℕ) → numbers s 5 (pieces s from p) ≡ due ys at → fault_at ys p ≡ 0 → pieces s from (suc p) ≡ due ys at
  unfolding pieces piece with_length
  piece_read ys at e z = rw (b, rw b at e, eq-eqb (fault_at ys p) 0 z)

pub pieces_stay : (s : List ℕ) (from m n f q : ℕ) → pieces s from m ≡ stopped f q → m ≤ n → pieces s from n ≡ stopped f q
unfolding pieces piece
pieces_stay s from m zero f q e h = let z : 0 ≡ m = omega arith in ap (pieces s from) z ∙ e
pieces_stay s from m (suc n) f q e h = elim (dec_lt m (suc n)) [
  | yes l ↦ rw (pieces_stay s from m n f q e (omega arith))
  | no l ↦ let z : suc n ≡ m = omega arith in ap (pieces s from) z ∙ e
]

-- number c of piece p is refused, and the file with it
pub refused_stays : (s : List ℕ) (from p n c f start : ℕ) (xs : List ℤ) (at : ℕ) (ys : List ℤ) → pieces s from p ≡ due xs start → numbers s c (pieces s from p) ≡ due ys at → stands_at s c at ≡ Refused f → c < 5 → p < n → pieces s from n ≡ stopped f at
refused_stays s from p n c f start xs at ys b e r h l =
    pieces_stay s from (suc p) n f at (piece_refused s from p xs start b f at (numbers_stay s (suc c) 5 (pieces s from p) f at (number_refused s c (pieces s from p) ys at f e r) h)) l
