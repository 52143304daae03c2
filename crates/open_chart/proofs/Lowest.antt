-- The lowest free place, a place at a time.
-- Assumes nothing.
use mathlib.Core.Path.{◌≡◌, refl, sym, ap, ◌∙◌, subst}
use mathlib.Core.Bool.{Bool, true, false, cond}
use mathlib.Core.List.{List}
use mathlib.Core.Logic.{⊎_elim}
use Prim.Native.Nat.{ℕ, zero, suc, ◌+◌, ◌<◌, ◌≤◌}
use native.Mathlib.Nat.{eq-or-lt_of_le, le_refl}
use native.Mathlib.Numerals.{add-one}
use native.Mathlib.Omega.{arith}
use borrow.Author.Tests.{ltb-true, ltb-false, lt-ltb, le-ltb}
use lib.Dec.{ltb}
use lib.IntN.{ℤ}
use Rattle.open_chart.specs.Memory.{places, is_used, lowest_free}

module _ (chart : List ℤ) where
  pub none_below : 0 ≡ lowest_free chart 0
  unfolding lowest_free
  none_below = refl

  -- all below i are used
  module _ (i : ℕ) (below : lowest_free chart i ≡ i) where
    own : ltb (lowest_free chart i) i ≡ false
    own = rw below (le-ltb i i (le_refl i))

    pub used_too : is_used chart i ≡ true → lowest_free chart (i + 1) ≡ i + 1
    unfolding lowest_free
    used_too e = rw (add-one, own, e)

    free_first : is_used chart i ≡ false → lowest_free chart (suc i) ≡ i
    unfolding lowest_free
    free_first e = rw (own, e)

  -- once found, it stays
  stays : (i n : ℕ) → lowest_free chart n ≡ i → i < n → lowest_free chart (suc n) ≡ i
  unfolding lowest_free
  stays i n e h = rw (e, lt-ltb i n h)

  pub found : (i n : ℕ) → lowest_free chart i ≡ i → is_used chart i ≡ false → i < n → lowest_free chart n ≡ i
  found i zero b e h = absurd (omega arith)
  found i (suc n) b e h =
      ⊎_elim
      (λ (q : i ≡ n). subst (λ (k : ℕ). lowest_free chart (suc k) ≡ i) q (free_first i b e))
      (λ (l : i < n). stays i n (found i n b e l) l)
      (eq-or-lt_of_le {n = i} {m = n} (omega arith))

  -- it is never beyond n
  pub lowest_most : (n : ℕ) → lowest_free chart n ≤ n
  unfolding lowest_free
  lowest_most zero = omega arith
  lowest_most (suc n) = go (ltb (lowest_free chart n) n) (is_used chart n) (lowest_most n)
    where
      go : (s t : Bool) → lowest_free chart n ≤ n → cond s (lowest_free chart n) (cond t (suc n) n) ≤ suc n
      go true t h = omega arith
      go false true h = omega arith
      go false false h = omega arith

  pub below : (r : ℕ) → r ≡ lowest_free chart places → ¬ (r ≡ places) → r < places
  below r e n = omega (arith, lowest_most places)

  -- every place below it is used, and it is free itself
  used_below : (n j : ℕ) → ((j : ℕ) → j < lowest_free chart n → is_used chart j ≡ true) → j < lowest_free chart (suc n) → is_used chart j ≡ true
  unfolding lowest_free
  used_below n j below = go (ltb (lowest_free chart n) n) refl (is_used chart n) refl
    where
      go : (s : Bool) → ltb (lowest_free chart n) n ≡ s → (t : Bool) → is_used chart n ≡ t → j < cond s (lowest_free chart n) (cond t (suc n) n) → is_used chart j ≡ true
      go true e t f h = below j h
      go false e true f h =
          ⊎_elim
          (λ (q : j ≡ n). ap (is_used chart) q ∙ f)
          (λ (l : j < n). below j (omega (arith, ltb-false (lowest_free chart n) n e)))
          (eq-or-lt_of_le {n = j} {m = n} (omega arith))
      go false e false f h = below j (omega (arith, ltb-false (lowest_free chart n) n e))

  pub lowest_below : (n j : ℕ) → j < lowest_free chart n → is_used chart j ≡ true
  lowest_below zero j h = absurd (omega (arith, none_below))
  lowest_below (suc n) j h = used_below n j (lowest_below n) h

  free_here : (n : ℕ) → (lowest_free chart n < n → is_used chart (lowest_free chart n) ≡ false) → lowest_free chart (suc n) < suc n → is_used chart (lowest_free chart (suc n)) ≡ false
  unfolding lowest_free
  free_here n here = go (ltb (lowest_free chart n) n) refl (is_used chart n) refl
    where
      go : (s : Bool) → ltb (lowest_free chart n) n ≡ s → (t : Bool) → is_used chart n ≡ t
          → cond s (lowest_free chart n) (cond t (suc n) n) < suc n → is_used chart (cond s (lowest_free chart n) (cond t (suc n) n)) ≡ false
      go true e t f h = here (ltb-true (lowest_free chart n) n e)
      go false e true f h = absurd (omega arith)
      go false e false f h = f

  pub lowest_here : (n : ℕ) → lowest_free chart n < n → is_used chart (lowest_free chart n) ≡ false
  lowest_here zero h = absurd (omega arith)
  lowest_here (suc n) h = free_here n (lowest_here n) h

  -- all used
  pub used_up : (n : ℕ) → ((j : ℕ) → j < n → is_used chart j ≡ true) → lowest_free chart n ≡ n
  used_up zero f = sym none_below
  used_up (suc n) f = ap (lowest_free chart) (sym (add-one n)) ∙ used_too n (used_up n (λ j h. f j (omega arith))) (f n (omega arith)) ∙ add-one n
