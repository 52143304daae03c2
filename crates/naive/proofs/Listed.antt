-- Which pairs the rows list, and in which order, for any test.
-- Assumes nothing.
use mathlib.Core.Path.{◌≡◌, refl, sym, ap, ◌∙◌, subst}
use mathlib.Core.Bool.{Bool, true, false, cond}
use mathlib.Core.Logic.{inl, inr, ⊎_elim, ◌≢◌}
use mathlib.Core.List.Memᴰ
use mathlib.Core.List.{List, [], ◌∷◌, ◌++◌}
use mathlib.Core.List.Memᴰ.{append_cases as cases}
use mathlib.Core.List.Memᴰ.{eq_of_singleton as only}
use mathlib.Core.List.Memᴰ.{head as here}
use mathlib.Core.List.Memᴰ.{not-nil}
use mathlib.Core.List.Memᴰ.{tail as there}
use mathlib.Core.List.{Memᴰ as In}
use Prim.Native.Nat.{ℕ, zero, suc, ◌<◌}
use native.Mathlib.Nat.{eq-or-lt_of_le}
use native.Mathlib.Omega.{arith}
use Rattle.naive.specs.Pairs.{Pair, row, rows}
use Rattle.naive.specs.Demand.{Pairwise, Before}
use Rattle.naive.proofs.Rows.{row_yes}

-- the one pair that a turn may add
record Newest (t : Bool) (a b : ℕ) (p : Pair) : Type 0 where
  met : t ≡ true
  first : p.0 ≡ a
  second : p.1 ≡ b

new : (t : Bool) (a b : ℕ) (p : Pair) → In p (cond t ((a, b) ∷ []) []) → Newest t a b p
new true a b p m = let e : p ≡ (a, b) = only m in record { met = refl; first = ap (λ (r : Pair). r.0) e; second = ap (λ (r : Pair). r.1) e }
new false a b p m = absurd (not-nil m)

module _ (meets : ℕ → ℕ → Bool) where
  -- ---- a row
  pub record InRow (a b : ℕ) (p : Pair) : Type 0 where
    pub first : p.0 ≡ a
    pub below : p.1 < b
    pub met : meets a p.1 ≡ true

  later : {a b : ℕ} {p : Pair} → InRow a b p → InRow a (suc b) p
  later r = record { first = r.first; below = omega (arith, r.below); met = r.met }

  newest : {a b : ℕ} {p : Pair} → Newest (meets a b) a b p → InRow a (suc b) p
  newest {a} r = record { first = r.first; below = omega (arith, r.second); met = ap (meets a) r.second ∙ r.met }

  row_says : (a b : ℕ) (p : Pair) → In p (row meets a b) → InRow a b p
  unfolding row
  row_says a zero p m = absurd (not-nil m)
  row_says a (suc b) p m = ⊎_elim (λ o. later (row_says a b p o)) (λ o. newest (new (meets a b) a b p o)) (cases (row meets a b) m)

  row_has : (a b i : ℕ) → i < b → meets a i ≡ true → In (a, i) (row meets a b)
  unfolding row
  row_has a zero i h e = absurd (omega arith)
  row_has a (suc b) i h e =
      ⊎_elim
      (λ (q : i ≡ b). subst (λ (l : List Pair). In (a, i) l) (sym (row_yes meets a b (ap (meets a) (sym q) ∙ e))) (Memᴰ.append_right (row meets a b) (here (ap (λ (k : ℕ). (a, k)) q))))
      (λ (l : i < b). Memᴰ.append_left _ (row_has a b i l e))
      (eq-or-lt_of_le {n = i} {m = b} (omega arith))

  -- ---- the rows
  pub record InRows (n : ℕ) (p : Pair) : Type 0 where
    pub greater : p.1 < p.0
    pub below : p.0 < n
    pub met : meets p.0 p.1 ≡ true

  sooner : {n : ℕ} {p : Pair} → InRows n p → InRows (suc n) p
  sooner r = record { greater = r.greater; below = omega (arith, r.below); met = r.met }

  last_row : {n : ℕ} {p : Pair} → InRow n n p → InRows (suc n) p
  last_row {n} {p} r = let e = r.first in record { greater = omega (arith, r.below); below = omega arith; met = ap (λ (k : ℕ). meets k p.1) e ∙ r.met }

  pub rows_say : (n : ℕ) (p : Pair) → In p (rows meets n) → InRows n p
  unfolding rows
  rows_say zero p m = absurd (not-nil m)
  rows_say (suc n) p m = ⊎_elim (λ o. sooner (rows_say n p o)) (λ o. last_row (row_says n n p o)) (cases (rows meets n) m)

  pub rows_have : (n a b : ℕ) → a < n → b < a → meets a b ≡ true → In (a, b) (rows meets n)
  unfolding rows
  rows_have zero a b h l e = absurd (omega arith)
  rows_have (suc n) a b h l e =
      ⊎_elim
      (λ (q : a ≡ n). Memᴰ.append_right (rows meets n) (subst (λ (k : ℕ). In (a, b) (row meets k k)) q (row_has a a b l e)))
      (λ (k : a < n). Memᴰ.append_left _ (rows_have n a b k l e))
      (eq-or-lt_of_le {n = a} {m = n} (omega arith))

  -- ---- in order
  append : (s t : List Pair) → Pairwise Before s → Pairwise Before t → ((p q : Pair) → In p s → In q t → Before p q) → Pairwise Before (s ++ t)
  append [] t h k f = k
  append (x ∷ s) t h k f = (λ q m. ⊎_elim (h.0 q) (f x q (here refl)) (cases s m), append s t h.1 k (λ p q m. f p q (there m)))

  single : (t : Bool) (a b : ℕ) → Pairwise Before (cond t ((a, b) ∷ []) [])
  single true a b = (λ q m. absurd (not-nil m), tt)
  single false a b = tt

  row_ascends : (a b : ℕ) → Pairwise Before (row meets a b)
  unfolding row
  row_ascends a zero = tt
  row_ascends a (suc b) =
      append (row meets a b) _ (row_ascends a b) (single (meets a b) a b)
      (λ p q m o. let r = row_says a b p m in let s = new (meets a b) a b q o in inr (r.first ∙ sym s.first, omega (arith, r.below, s.second)))

  pub rows_ascend : (n : ℕ) → Pairwise Before (rows meets n)
  unfolding rows
  rows_ascend zero = tt
  rows_ascend (suc n) =
      append (rows meets n) (row meets n n) (rows_ascend n) (row_ascends n n)
      (λ p q m o. inl (omega (arith, (rows_say n p m).below, (row_says n n q o).first)))

-- a pair does not come before itself, so none is listed twice
apart : (p q : Pair) → Before p q → p ≢ q
apart p q (inl h) e = let i : p.0 ≡ q.0 = ap (λ (r : Pair). r.0) e in omega arith
apart p q (inr h) e = let i : p.1 ≡ q.1 = ap (λ (r : Pair). r.1) e in omega (arith, h.1)

pub once : (l : List Pair) → Pairwise Before l → Pairwise (λ p q. p ≢ q) l
once [] h = tt
once (p ∷ l) h = (λ q m e. apart p q (h.0 q m) e, once l h.1)
