-- What `first` finds: none below it is a yes, and it is one, or there is none. Assumes nothing.
use mathlib.Core.Path.{◌≡◌, refl, sym, ap, subst, ◌∙◌}
use mathlib.Core.Bool.{Bool, true, false}
use mathlib.Core.Logic.{◌⊎◌, inl, inr}
use Prim.Native.Nat.{ℕ, zero, suc, ◌+◌, ◌≤◌, ◌<◌}
use native.Mathlib.Nat.{eq-or-lt_of_le}
use native.Mathlib.Omega.{arith}
use Rattle.std.specs.Prelude.{Option, Some, MatchOption, unwrap_or}
use Rattle.outline.specs.Counting.{first}

-- no number below i is a yes
abbrev pub None : (ℕ → Bool) → ℕ → Type 0
None f i = (j : ℕ) → j < i → f j ≡ false

pub found : (f : ℕ → Bool) (i n : ℕ) → i < n → None f i → f i ≡ true → first f n ≡ i
unfolding first
found f i zero h b e = absurd (omega arith)
found f zero (suc n) h b e = rw e
found f (suc i) (suc n) h b e = rw (b 0 (omega arith)) (ap suc (found (λ j. f (suc j)) i n (omega arith) (λ j k. b (suc j) (omega arith)) e))

pub none : (f : ℕ → Bool) (n : ℕ) → None f n → first f n ≡ n
unfolding first
none f zero b = refl
none f (suc n) b = rw (b 0 (omega arith)) (ap suc (none (λ j. f (suc j)) n (λ j k. b (suc j) (omega arith))))

-- what `find` over the numbers below n gives, n where it gives none
pub find_or : (f : ℕ → Bool) (n : ℕ) (r : Option ℕ)
    → MatchOption r ((k : ℕ) → 0 ≤ k → k < n → f k ≡ false) (λ i. (0 ≤ i) × (i < n) × (f i ≡ true) × ((k : ℕ) → 0 ≤ k → k < i → f k ≡ false))
    → unwrap_or r n ≡ first f n
find_or f n Rattle.std.specs.Prelude.None h = sym (none f n (λ j l. h j (omega arith) l))
find_or f n (Some i) h = sym (found f i n h.1 (λ j l. h.3 j (omega arith) l) h.2)

-- one more that is no yes
pub more : (f : ℕ → Bool) (i : ℕ) → None f i → f i ≡ false → None f (suc i)
more f i b e j h = go (eq-or-lt_of_le {n = j} {m = i} (omega arith))
  where
    go : (j ≡ i) ⊎ (j < i) → f j ≡ false
    go (inl q) = ap f q ∙ e
    go (inr k) = b j k

-- what there is to know of it
pub data Finds (f : ℕ → Bool) (n : ℕ) : ℕ → Type 0 where
  at : (i : ℕ) → i < n → None f i → f i ≡ true → Finds f n i
  nowhere : None f n → Finds f n n

-- none below i, and k more to ask
looks : (f : ℕ → Bool) (n k i : ℕ) → i + k ≡ n → None f i → (b : Bool) → f i ≡ b → Finds f n (first f n)
looks f n zero i e h b q = let z : i ≡ n = omega arith in let r = subst (None f) z h in subst (Finds f n) (sym (none f n r)) (nowhere r)
looks f n (suc k) i e h true q = subst (Finds f n) (sym (found f i n (omega arith) h q)) (at i (omega arith) h q)
looks f n (suc k) i e h false q = looks f n k (suc i) (omega arith) (more f i h q) (f (suc i)) refl

pub finds : (f : ℕ → Bool) (n : ℕ) → Finds f n (first f n)
finds f n = looks f n n 0 (omega arith) (λ j h. absurd (omega arith)) (f 0) refl
