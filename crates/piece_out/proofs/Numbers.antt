-- Numbers lowered and raised around i.
-- Assumes nothing.
use mathlib.Core.Path.{◌≡◌, refl}
use mathlib.Core.Logic.{◌⊎◌, inl, inr, ⊎_elim, ◌≢◌}
use mathlib.Core.Bool.{true, false}
use Prim.Native.Nat.{ℕ, suc, ◌-◌, ◌<◌, ◌≤◌}
use native.Mathlib.Omega.{arith}
use borrow.Author.Tests.{ltb-true, ltb-false}
use lib.Dec.{ltb}
use Rattle.sweep.proofs.Tests.{ask, ltb_yes, ltb_no}
use Rattle.piece_out.specs.Cut.{lowered, raised}

module _ (i : ℕ) where
  -- what either does to a number, told by where it stands
  pub lowered_is : (j : ℕ) → ((i < j) × (lowered i j ≡ j - 1)) ⊎ ((j ≤ i) × (lowered i j ≡ j))
  unfolding lowered
  lowered_is j =
      ⊎_elim
      (λ (e : ltb i j ≡ true). inl (ltb-true i j e, rw e))
      (λ (e : ltb i j ≡ false). inr (ltb-false i j e, rw e))
      (ask (ltb i j))

  pub raised_is : (j : ℕ) → ((j < i) × (raised i j ≡ j)) ⊎ ((i ≤ j) × (raised i j ≡ suc j))
  unfolding raised
  raised_is j =
      ⊎_elim
      (λ (e : ltb j i ≡ true). inl (ltb-true j i e, rw e))
      (λ (e : ltb j i ≡ false). inr (ltb-false j i e, rw e))
      (ask (ltb j i))

  pub raise_lowered : (j : ℕ) → j ≢ i → raised i (lowered i j) ≡ j
  raise_lowered j ne = go (lowered_is j) (raised_is (lowered i j))
    where
      go : ((i < j) × (lowered i j ≡ j - 1)) ⊎ ((j ≤ i) × (lowered i j ≡ j)) → ((lowered i j < i) × (raised i (lowered i j) ≡ lowered i j)) ⊎ ((i ≤ lowered i j) × (raised i (lowered i j) ≡ suc (lowered i j)))
          → raised i (lowered i j) ≡ j
      go (inl h) (inl k) = absurd (omega (arith, h.0, h.1, k.0))
      go (inl h) (inr k) = omega (arith, h.0, h.1, k.1)
      go (inr h) (inl k) = omega (arith, h.1, k.1)
      go (inr h) (inr k) = absurd (ne (omega (arith, h.0, h.1, k.0)))

  pub lower_raised : (j : ℕ) → lowered i (raised i j) ≡ j
  lower_raised j = go (raised_is j) (lowered_is (raised i j))
    where
      go : ((j < i) × (raised i j ≡ j)) ⊎ ((i ≤ j) × (raised i j ≡ suc j)) → ((i < raised i j) × (lowered i (raised i j) ≡ raised i j - 1)) ⊎ ((raised i j ≤ i) × (lowered i (raised i j) ≡ raised i j))
          → lowered i (raised i j) ≡ j
      go (inl h) (inl k) = absurd (omega (arith, h.0, h.1, k.0))
      go (inl h) (inr k) = omega (arith, h.1, k.1)
      go (inr h) (inl k) = omega (arith, h.1, k.1)
      go (inr h) (inr k) = absurd (omega (arith, h.0, h.1, k.0))

  pub raised_not : (j : ℕ) → raised i j ≢ i
  raised_not j e = ⊎_elim (λ (h : (j < i) × (raised i j ≡ j)). omega (arith, h.0, h.1)) (λ (h : (i ≤ j) × (raised i j ≡ suc j)). omega (arith, h.0, h.1)) (raised_is j)

  pub raised_below : (j n : ℕ) → i < n → j < n - 1 → raised i j < n
  raised_below j n h k =
      ⊎_elim (λ (t : (j < i) × (raised i j ≡ j)). omega (arith, t.0, t.1)) (λ (t : (i ≤ j) × (raised i j ≡ suc j)). omega (arith, t.0, t.1)) (raised_is j)

  pub lowered_below : (j n : ℕ) → i < n → j ≢ i → j < n → lowered i j < n - 1
  lowered_below j n h ne k =
      ⊎_elim (λ (t : (i < j) × (lowered i j ≡ j - 1)). omega (arith, t.0, t.1)) (λ (t : (j ≤ i) × (lowered i j ≡ j)). omega (arith, t.0, t.1)) (lowered_is j)

  pub lowered_less : (j k : ℕ) → j ≢ i → k ≢ i → j < k → lowered i j < lowered i k
  lowered_less j k nj nk h =
      ⊎_elim
      (λ (s : (i < j) × (lowered i j ≡ j - 1)).
      ⊎_elim (λ (t : (i < k) × (lowered i k ≡ k - 1)). omega (arith, s.0, s.1, t.1)) (λ (t : (k ≤ i) × (lowered i k ≡ k)). omega (arith, s.0, t.0)) (lowered_is k))
      (λ (s : (j ≤ i) × (lowered i j ≡ j)).
      ⊎_elim (λ (t : (i < k) × (lowered i k ≡ k - 1)). omega (arith, s.0, s.1, t.0, t.1)) (λ (t : (k ≤ i) × (lowered i k ≡ k)). omega (arith, s.1, t.1)) (lowered_is k))
      (lowered_is j)

  pub raised_less : (j k : ℕ) → j < k → raised i j < raised i k
  raised_less j k h =
      ⊎_elim
      (λ (s : (j < i) × (raised i j ≡ j)).
      ⊎_elim (λ (t : (k < i) × (raised i k ≡ k)). omega (arith, s.1, t.1)) (λ (t : (i ≤ k) × (raised i k ≡ suc k)). omega (arith, s.1, t.1)) (raised_is k))
      (λ (s : (i ≤ j) × (raised i j ≡ suc j)).
      ⊎_elim (λ (t : (k < i) × (raised i k ≡ k)). omega (arith, s.0, t.0)) (λ (t : (i ≤ k) × (raised i k ≡ suc k)). omega (arith, s.1, t.1)) (raised_is k))
      (raised_is j)
