-- The used places below n: how many, in which order, and that each is used.
-- Assumes nothing.
use mathlib.Core.Path.{◌≡◌, refl, ap, ◌∙◌, subst}
use mathlib.Core.Bool.{Bool, true, false}
use mathlib.Core.List.{List, [], ◌∷◌}
use mathlib.Core.Logic.{⊎_elim}
use Prim.Native.Nat.{ℕ, zero, suc, ◌<◌, ◌≤◌}
use native.Mathlib.Nat.{eq-or-lt_of_le}
use native.Mathlib.Omega.{arith}
use lib.IntN.{ℤ}
use lib.ListN.{length, get_or, length-append, get_or-append}
use lib.Seq.{get_or_at}
use Rattle.open_chart.specs.Memory.{is_used, used_below}
use Rattle.open_chart.proofs.Gathers.{below_none, below_used, below_free}

module _ (chart : List ℤ) where
  abbrev pub count : ℕ → ℕ
  count n = length (used_below chart n)

  -- the case of place i
  either : {P : Type 0} (i : ℕ) → (is_used chart i ≡ true → P) → (is_used chart i ≡ false → P) → P
  either {P} i f g = go (is_used chart i) refl
    where
      go : (t : Bool) → is_used chart i ≡ t → P
      go true e = f e
      go false e = g e

  pub count_none : count 0 ≡ 0
  count_none = rw below_none

  pub count_used : (i : ℕ) → is_used chart i ≡ true → count (suc i) ≡ suc (count i)
  count_used i e = ap length (below_used chart i e) ∙ length-append (used_below chart i) (i ∷ []) ∙ omega arith

  pub count_free : (i : ℕ) → is_used chart i ≡ false → count (suc i) ≡ count i
  count_free i e = ap length (below_free chart i e)

  pub count_most : (n : ℕ) → count n ≤ n
  count_most zero = rw below_none (omega arith)
  count_most (suc n) = either n (λ u. omega (arith, count_used n u, count_most n)) (λ u. omega (arith, count_free n u, count_most n))

  count_grows : (n : ℕ) → count n ≤ count (suc n)
  count_grows n = either n (λ u. omega (arith, count_used n u)) (λ u. omega (arith, count_free n u))

  -- a used place below n is counted there
  pub count_less : (n i : ℕ) → i < n → is_used chart i ≡ true → count i < count n
  count_less zero i h u = absurd (omega arith)
  count_less (suc n) i h u =
      ⊎_elim
      (λ (e : i ≡ n). subst (λ (k : ℕ). count i < count (suc k)) e (omega (arith, count_used i u)))
      (λ (l : i < n). omega (arith, count_less n i l u, count_grows n))
      (eq-or-lt_of_le {n = i} {m = n} (omega arith))

  -- it stands after those below it
  nth_last : (i : ℕ) → is_used chart i ≡ true → get_or (used_below chart (suc i)) (count i) 0 ≡ i
  nth_last i u = rw (below_used chart i u) (get_or_at (used_below chart i) i [] 0 (count i) refl)

  -- what stands below n stands below n + 1
  kept : (n k : ℕ) → k < count n → get_or (used_below chart (suc n)) k 0 ≡ get_or (used_below chart n) k 0
  kept n k h =
      either n
      (λ v. rw (below_used chart n v) (get_or-append (used_below chart n) (n ∷ []) 0 k h))
      (λ v. rw (below_free chart n v))

  pub nth_used : (n i : ℕ) → i < n → is_used chart i ≡ true → get_or (used_below chart n) (count i) 0 ≡ i
  nth_used zero i h u = absurd (omega arith)
  nth_used (suc n) i h u =
      ⊎_elim
      (λ (e : i ≡ n). subst (λ (k : ℕ). get_or (used_below chart (suc k)) (count i) 0 ≡ i) e (nth_last i u))
      (λ (l : i < n). kept n (count i) (count_less n i l u) ∙ nth_used n i l u)
      (eq-or-lt_of_le {n = i} {m = n} (omega arith))

  -- and each of them is used
  last_used : (n k : ℕ) → is_used chart n ≡ true → k ≡ count n → is_used chart (get_or (used_below chart (suc n)) k 0) ≡ true
  last_used n k v e = ap (λ (j : ℕ). is_used chart (get_or (used_below chart (suc n)) j 0)) e ∙ ap (is_used chart) (nth_last n v) ∙ v

  pub all_used : (n k : ℕ) → k < count n → is_used chart (get_or (used_below chart n) k 0) ≡ true
  all_used zero k h = absurd (omega (arith, count_none))
  all_used (suc n) k h =
      either n
      (λ v.
      ⊎_elim
      (last_used n k v)
      (λ (l : k < count n). ap (is_used chart) (kept n k l) ∙ all_used n k l)
      (eq-or-lt_of_le {n = k} {m = count n} (omega (arith, count_used n v))))
      (λ v. let l : k < count n = omega (arith, count_free n v) in ap (is_used chart) (kept n k l) ∙ all_used n k l)
