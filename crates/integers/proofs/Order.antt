-- The order of ℤ: `tri a b` is `less h`, `same e` or `more h`; chains, antisymmetry, shifts; and certificates.
-- `<_cert ρ s (search terms depth 60 fits 20000) tt : a <ℤ b`, where b - a is, by the ring laws, the number whose sign is s; `≤_cert`, `≡_cert` likewise.
-- `between_squares` and `substituted` below are examples. Assumes nothing.
use mathlib.Core.Path.{◌≡◌, refl, sym, ◌∙◌, subst}
use mathlib.Core.Bool.{not}
use mathlib.Core.List.{List, [], ◌∷◌}
use mathlib.Core.Logic.{◌⊎◌, inl, inr}
use Prim.Native.Nat.{zero, suc}
use native.Mathlib.Omega.{arith}
use lib.Dec.{T, lt→ltb, nleb→lt}
use lib.IntN.{ℤ, pos, negsuc, neg_ℤ, ◌+ℤ◌, ◌-ℤ◌, ◌*ℤ◌}
use lib.Signed.{le_z, lt_z, ◌≤ℤ◌, ◌<ℤ◌, ≤ℤ_refl, <ℤ-≤ℤ_trans, clash_ℤ}
use Rattle.integers.proofs.Polynomial.{norm, is_zero}
use Rattle.integers.proofs.Identity.{Read, by_ring, terms}
use Rattle.integers.proofs.Signs.{≤_diff, diff-≤, <_diff, diff-<, ≡_diff, diff-≡, <→≤, n+n, p+n, sq, z+z, x*z}

-- ---- an inequality from a number of known sign that the difference of its sides is
module _ (ρ : List ℤ) {a b s : ℤ} where
  pub ≤_cert : pos 0 ≤ℤ s → (x : Read ρ (b -ℤ a -ℤ s)) → T (is_zero (norm x.ex)) → a ≤ℤ b
  ≤_cert h x t = diff-≤ (subst (λ (z : ℤ). pos 0 ≤ℤ z) (sym (by_ring ρ x t)) h)

  pub <_cert : pos 0 <ℤ s → (x : Read ρ (b -ℤ a -ℤ s)) → T (is_zero (norm x.ex)) → a <ℤ b
  <_cert h x t = diff-< (subst (λ (z : ℤ). pos 0 <ℤ z) (sym (by_ring ρ x t)) h)

  pub ≡_cert : s ≡ pos 0 → (x : Read ρ (b -ℤ a -ℤ s)) → T (is_zero (norm x.ex)) → a ≡ b
  ≡_cert e x t = diff-≡ a b (by_ring ρ x t ∙ e)

between_squares : (a b : ℤ) → (a *ℤ b +ℤ a *ℤ b) ≤ℤ (a *ℤ a +ℤ b *ℤ b)
between_squares a b = ≤_cert (a ∷ b ∷ []) (sq (a -ℤ b)) (search terms depth 60 fits 20000) tt

-- the two equations, times the right factors, add up to the third
substituted : (u v w k l : ℤ) → u ≡ v *ℤ k → v ≡ w *ℤ l → u ≡ w *ℤ (l *ℤ k)
substituted u v w k l e f = ≡_cert (u ∷ v ∷ w ∷ k ∷ l ∷ []) (z+z (≡_diff e) (x*z k (≡_diff f))) (search terms depth 60 fits 20000) tt

-- ---- which of the two is less
pub data Tri (a b : ℤ) : Type 0 where
  less : a <ℤ b → Tri a b
  same : a ≡ b → Tri a b
  more : b <ℤ a → Tri a b

tri0 : (z : ℤ) → Tri (pos 0) z
tri0 (pos zero) = same refl
tri0 (pos (suc n)) = less (record { lt = lt→ltb 0 (suc n) (omega arith) })
tri0 (negsuc n) = more (record { lt = tt })

pub tri : (a b : ℤ) → Tri a b
tri a b = go (tri0 (b -ℤ a))
  where
    go : Tri (pos 0) (b -ℤ a) → Tri a b
    go (less h) = less (diff-< h)
    go (same e) = same (diff-≡ a b (sym e))
    go (more h) = more (<_cert (a ∷ b ∷ []) (<_diff h) (search terms depth 60 fits 20000) tt)

-- ---- chains
pub ≡→≤ : {a b : ℤ} → a ≡ b → a ≤ℤ b
≡→≤ {a} e = subst (λ (x : ℤ). a ≤ℤ x) e (≤ℤ_refl a)

pub ≤_trans : {a b c : ℤ} → a ≤ℤ b → b ≤ℤ c → a ≤ℤ c
≤_trans {a} {b} {c} h k = ≤_cert (a ∷ b ∷ c ∷ []) (n+n (≤_diff h) (≤_diff k)) (search terms depth 60 fits 20000) tt

pub <_trans : {a b c : ℤ} → a <ℤ b → b <ℤ c → a <ℤ c
<_trans h k = <ℤ-≤ℤ_trans h (<→≤ k)

pub ≤-<_trans : {a b c : ℤ} → a ≤ℤ b → b <ℤ c → a <ℤ c
≤-<_trans {a} {b} {c} h k = <_cert (a ∷ b ∷ c ∷ []) (p+n (<_diff k) (≤_diff h)) (search terms depth 60 fits 20000) tt

-- ---- the one or the other
pub <_or-≥ : (a b : ℤ) → (a <ℤ b) ⊎ (b ≤ℤ a)
<_or-≥ a b = go (tri a b)
  where
    go : Tri a b → (a <ℤ b) ⊎ (b ≤ℤ a)
    go (less h) = inl h
    go (same e) = inr (≡→≤ (sym e))
    go (more h) = inr (<→≤ h)

pub ≮→≥ : {a b : ℤ} → ¬ (a <ℤ b) → b ≤ℤ a
≮→≥ {a} {b} f = go (<_or-≥ a b)
  where
    go : (a <ℤ b) ⊎ (b ≤ℤ a) → b ≤ℤ a
    go (inl h) = absurd (f h)
    go (inr h) = h

pub ≰→> : {a b : ℤ} → ¬ (a ≤ℤ b) → b <ℤ a
≰→> {a} {b} f = go (<_or-≥ b a)
  where
    go : (b <ℤ a) ⊎ (a ≤ℤ b) → b <ℤ a
    go (inl h) = h
    go (inr h) = absurd (f h)

pub <_asym : {a b : ℤ} → a <ℤ b → ¬ (b <ℤ a)
<_asym h k = clash_ℤ h (<→≤ k)

pub <→≢ : {a b : ℤ} → a <ℤ b → ¬ (a ≡ b)
<→≢ {a} {b} h e = clash_ℤ h (≡→≤ (sym e))

pub ≤_antisym : {a b : ℤ} → a ≤ℤ b → b ≤ℤ a → a ≡ b
≤_antisym {a} {b} h k = go (tri a b)
  where
    go : Tri a b → a ≡ b
    go (less l) = clash_ℤ l k
    go (same e) = e
    go (more l) = clash_ℤ l h

pub ≤-≢→< : {a b : ℤ} → a ≤ℤ b → ¬ (a ≡ b) → a <ℤ b
≤-≢→< {a} {b} h d = go (tri a b)
  where
    go : Tri a b → a <ℤ b
    go (less l) = l
    go (same e) = absurd (d e)
    go (more l) = clash_ℤ l h

-- ---- a shift, and the sign turned
pub +_mono-≤ : (a b c : ℤ) → a ≤ℤ b → (a +ℤ c) ≤ℤ (b +ℤ c)
+_mono-≤ a b c h = ≤_cert (a ∷ b ∷ c ∷ []) (≤_diff h) (search terms depth 60 fits 20000) tt

pub +_mono-< : (a b c : ℤ) → a <ℤ b → (a +ℤ c) <ℤ (b +ℤ c)
+_mono-< a b c h = <_cert (a ∷ b ∷ c ∷ []) (<_diff h) (search terms depth 60 fits 20000) tt

pub neg-≤ : {a b : ℤ} → a ≤ℤ b → neg_ℤ b ≤ℤ neg_ℤ a
neg-≤ {a} {b} h = ≤_cert (a ∷ b ∷ []) (≤_diff h) (search terms depth 60 fits 20000) tt

pub neg-< : {a b : ℤ} → a <ℤ b → neg_ℤ b <ℤ neg_ℤ a
neg-< {a} {b} h = <_cert (a ∷ b ∷ []) (<_diff h) (search terms depth 60 fits 20000) tt

-- ---- a test of code that failed; `lib.Signed` has the others, as `lt_z_no`
pub le_z_no : {a b : ℤ} → T (not (le_z a b)) → b <ℤ a
le_z_no {a} {b} t = record { lt = go a b t }
  where
    go : (a b : ℤ) → T (not (le_z a b)) → T (lt_z b a)
    go (pos a) (pos b) t = lt→ltb b a (nleb→lt a b t)
    go (pos a) (negsuc b) t = tt
    go (negsuc a) (pos b) t = absurd t
    go (negsuc a) (negsuc b) t = lt→ltb a b (nleb→lt b a t)
