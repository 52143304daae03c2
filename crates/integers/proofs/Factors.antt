-- A factor put into an order, or cancelled: `*_mono-< a b p h`, `*_cancel-< a b c p h`; the numbers are written, since a product does not show them.
-- The sign of a product with numbers below 0 (m) or at most 0 (o): `p*m h k`; what the sign of a product says of a factor: `p/p a q h`. No zero divisors.
-- `twice` below is the example. Assumes nothing.
use mathlib.Core.Path.{◌≡◌, sym, ap}
use mathlib.Core.List.{[], ◌∷◌}
use mathlib.Core.Logic.{◌⊎◌, inl, inr}
use lib.IntN.{ℤ, pos, ◌*ℤ◌}
use lib.Signed.{◌≤ℤ◌, ◌<ℤ◌, le_z_yes, clash_ℤ}
use Rattle.integers.proofs.Identity.{terms}
use Rattle.integers.proofs.Signs.{≤_diff, <_diff, <→≤, n*n, p*p}
use Rattle.integers.proofs.Order.{≤_cert, <_cert, Tri, less, same, more, tri, ≮→≥, <→≢}

-- ---- put in
pub *_mono-≤ : (a b : ℤ) {c : ℤ} → pos 0 ≤ℤ c → a ≤ℤ b → (a *ℤ c) ≤ℤ (b *ℤ c)
*_mono-≤ a b {c} p h = ≤_cert (a ∷ b ∷ c ∷ []) (n*n (≤_diff h) p) (search terms depth 60 fits 20000) tt

pub *_mono-< : (a b : ℤ) {c : ℤ} → pos 0 <ℤ c → a <ℤ b → (a *ℤ c) <ℤ (b *ℤ c)
*_mono-< a b {c} p h = <_cert (a ∷ b ∷ c ∷ []) (p*p (<_diff h) p) (search terms depth 60 fits 20000) tt

-- a factor below 0 turns the order round
pub *_turn-≤ : (a b : ℤ) {c : ℤ} → c ≤ℤ pos 0 → a ≤ℤ b → (b *ℤ c) ≤ℤ (a *ℤ c)
*_turn-≤ a b {c} p h = ≤_cert (a ∷ b ∷ c ∷ []) (n*n (≤_diff h) (≤_diff p)) (search terms depth 60 fits 20000) tt

pub *_turn-< : (a b : ℤ) {c : ℤ} → c <ℤ pos 0 → a <ℤ b → (b *ℤ c) <ℤ (a *ℤ c)
*_turn-< a b {c} p h = <_cert (a ∷ b ∷ c ∷ []) (p*p (<_diff h) (<_diff p)) (search terms depth 60 fits 20000) tt

-- ---- cancelled
module _ (a b c : ℤ) where
  pub *_cancel-< : pos 0 ≤ℤ c → (a *ℤ c) <ℤ (b *ℤ c) → a <ℤ b
  *_cancel-< p h = go (tri a b)
    where
      go : Tri a b → a <ℤ b
      go (less l) = l
      go (same e) = absurd (<→≢ h (ap (λ (x : ℤ). x *ℤ c) e))
      go (more l) = clash_ℤ h (*_mono-≤ b a p (<→≤ l))

  pub *_cancel-≤ : pos 0 <ℤ c → (a *ℤ c) ≤ℤ (b *ℤ c) → a ≤ℤ b
  *_cancel-≤ p h = ≮→≥ (λ l. clash_ℤ (*_mono-< b a p l) h)

  pub *_cancel-≡ : ¬ (c ≡ pos 0) → a *ℤ c ≡ b *ℤ c → a ≡ b
  *_cancel-≡ d e = go (tri a b) (tri c (pos 0))
    where
      go : Tri a b → Tri c (pos 0) → a ≡ b
      go (less l) (less m) = absurd (<→≢ (*_turn-< a b m l) (sym e))
      go (less l) (same z) = absurd (d z)
      go (less l) (more p) = absurd (<→≢ (*_mono-< a b p l) e)
      go (same x) t = x
      go (more l) (less m) = absurd (<→≢ (*_turn-< b a m l) e)
      go (more l) (same z) = absurd (d z)
      go (more l) (more p) = absurd (<→≢ (*_mono-< b a p l) (sym e))

twice : (a b : ℤ) → (a *ℤ pos 2) <ℤ (b *ℤ pos 2) → a <ℤ b
twice a b h = *_cancel-< a b (pos 2) (le_z_yes tt) h

-- ---- a product with numbers below 0 (m), above 0 (p), at most 0 (o), at least 0 (n)
pub p*m : {a b : ℤ} → pos 0 <ℤ a → b <ℤ pos 0 → (a *ℤ b) <ℤ pos 0
p*m {a} {b} h k = <_cert (a ∷ b ∷ []) (p*p h (<_diff k)) (search terms depth 60 fits 20000) tt

pub m*p : {a b : ℤ} → a <ℤ pos 0 → pos 0 <ℤ b → (a *ℤ b) <ℤ pos 0
m*p {a} {b} h k = <_cert (a ∷ b ∷ []) (p*p (<_diff h) k) (search terms depth 60 fits 20000) tt

pub m*m : {a b : ℤ} → a <ℤ pos 0 → b <ℤ pos 0 → pos 0 <ℤ (a *ℤ b)
m*m {a} {b} h k = <_cert (a ∷ b ∷ []) (p*p (<_diff h) (<_diff k)) (search terms depth 60 fits 20000) tt

pub n*o : {a b : ℤ} → pos 0 ≤ℤ a → b ≤ℤ pos 0 → (a *ℤ b) ≤ℤ pos 0
n*o {a} {b} h k = ≤_cert (a ∷ b ∷ []) (n*n h (≤_diff k)) (search terms depth 60 fits 20000) tt

pub o*o : {a b : ℤ} → a ≤ℤ pos 0 → b ≤ℤ pos 0 → pos 0 ≤ℤ (a *ℤ b)
o*o {a} {b} h k = ≤_cert (a ∷ b ∷ []) (n*n (≤_diff h) (≤_diff k)) (search terms depth 60 fits 20000) tt

-- ---- what the sign of a product says of a factor, the other one being above 0
module _ (a : ℤ) {c : ℤ} (p : pos 0 <ℤ c) where
  pub p/p : pos 0 <ℤ (a *ℤ c) → pos 0 <ℤ a
  p/p h = *_cancel-< (pos 0) a c (<→≤ p) (<_cert (a ∷ c ∷ []) h (search terms depth 60 fits 20000) tt)

  pub m/p : (a *ℤ c) <ℤ pos 0 → a <ℤ pos 0
  m/p h = *_cancel-< a (pos 0) c (<→≤ p) (<_cert (a ∷ c ∷ []) (<_diff h) (search terms depth 60 fits 20000) tt)

  pub n/p : pos 0 ≤ℤ (a *ℤ c) → pos 0 ≤ℤ a
  n/p h = *_cancel-≤ (pos 0) a c p (≤_cert (a ∷ c ∷ []) h (search terms depth 60 fits 20000) tt)

  pub o/p : (a *ℤ c) ≤ℤ pos 0 → a ≤ℤ pos 0
  o/p h = *_cancel-≤ a (pos 0) c p (≤_cert (a ∷ c ∷ []) (≤_diff h) (search terms depth 60 fits 20000) tt)

-- ---- ℤ has no zero divisors
pub zero_product : (a b : ℤ) → a *ℤ b ≡ pos 0 → (a ≡ pos 0) ⊎ (b ≡ pos 0)
zero_product a b e = go (tri a (pos 0)) (tri b (pos 0))
  where
    go : Tri a (pos 0) → Tri b (pos 0) → (a ≡ pos 0) ⊎ (b ≡ pos 0)
    go (same z) t = inl z
    go (less h) (same z) = inr z
    go (less h) (less k) = absurd (<→≢ (m*m h k) (sym e))
    go (less h) (more k) = absurd (<→≢ (m*p h k) e)
    go (more h) (same z) = inr z
    go (more h) (less k) = absurd (<→≢ (p*m h k) e)
    go (more h) (more k) = absurd (<→≢ (p*p h k) (sym e))
