-- The laws of the ring ℤ that the kit leaves out: the product distributes and associates, and a sign moves out of it.
-- One law is called by name, as in `double` below; an identity of several steps is one line of Identity.antt.
-- Assumes nothing.
use mathlib.Core.Path.{◌≡◌, refl, sym, ap, ◌∙◌}
use Prim.Native.Nat.{zero, suc, ◌*◌}
use lib.IntN.{ℤ, pos, negsuc, neg_ℤ, suc_ℤ, pred_ℤ, ◌+ℤ◌, ◌-ℤ◌, ◌*ℤ◌, +ℤ_assoc, +ℤ_comm, +ℤ_idl, neg_ℤ-neg_ℤ, suc_ℤ-*ℤ, pred_ℤ-*ℤ, zero-*ℤ, *ℤ_comm, *ℤ-one, one, suc_ℤ-+ℤ, pred_ℤ-+ℤ}

-- (a + b) + (c + d) = (a + c) + (b + d)
pub +ℤ-swap : (a b c d : ℤ) → (a +ℤ b) +ℤ (c +ℤ d) ≡ (a +ℤ c) +ℤ (b +ℤ d)
+ℤ-swap a b c d =
    +ℤ_assoc a b (c +ℤ d)
    ∙ ap (λ (x : ℤ). a +ℤ x) (sym (+ℤ_assoc b c d) ∙ ap (λ (x : ℤ). x +ℤ d) (+ℤ_comm b c) ∙ +ℤ_assoc c b d)
    ∙ sym (+ℤ_assoc a c (b +ℤ d))

-- (a + b) + c = (a + c) + b
pub +ℤ-right-comm : (a b c : ℤ) → (a +ℤ b) +ℤ c ≡ (a +ℤ c) +ℤ b
+ℤ-right-comm a b c = +ℤ_assoc a b c ∙ ap (λ (x : ℤ). a +ℤ x) (+ℤ_comm b c) ∙ sym (+ℤ_assoc a c b)

-- what holds at 0, and with a at a + 1 and a - 1, holds everywhere
pub updown : (P : ℤ → Type 0) → P (pos zero) → ((a : ℤ) → P a → P (suc_ℤ a)) → ((a : ℤ) → P a → P (pred_ℤ a)) → (k : ℤ) → P k
updown P z s p (pos zero) = z
updown P z s p (pos (suc n)) = s (pos n) (updown P z s p (pos n))
updown P z s p (negsuc zero) = p (pos zero) z
updown P z s p (negsuc (suc n)) = p (negsuc n) (updown P z s p (negsuc n))

-- (a + b) * c = a * c + b * c
pub *ℤ_distribʳ : (a b c : ℤ) → (a +ℤ b) *ℤ c ≡ a *ℤ c +ℤ b *ℤ c
*ℤ_distribʳ a b c = updown (λ (a : ℤ). (a +ℤ b) *ℤ c ≡ a *ℤ c +ℤ b *ℤ c)
    (ap (λ (x : ℤ). x *ℤ c) (+ℤ_idl b) ∙ sym (+ℤ_idl (b *ℤ c)) ∙ ap (λ (x : ℤ). x +ℤ b *ℤ c) (sym (zero-*ℤ c)))
    (λ a h. ap (λ (x : ℤ). x *ℤ c) (suc_ℤ-+ℤ a b) ∙ suc_ℤ-*ℤ (a +ℤ b) c ∙ ap (λ (x : ℤ). x +ℤ c) h ∙ +ℤ-right-comm (a *ℤ c) (b *ℤ c) c ∙ ap (λ (x : ℤ). x +ℤ b *ℤ c) (sym (suc_ℤ-*ℤ a c)))
    (λ a h. ap (λ (x : ℤ). x *ℤ c) (pred_ℤ-+ℤ a b) ∙ pred_ℤ-*ℤ (a +ℤ b) c ∙ ap (λ (x : ℤ). x -ℤ c) h ∙ +ℤ-right-comm (a *ℤ c) (b *ℤ c) (neg_ℤ c) ∙ ap (λ (x : ℤ). x +ℤ b *ℤ c) (sym (pred_ℤ-*ℤ a c)))
    a

pub *ℤ_distribˡ : (a b c : ℤ) → a *ℤ (b +ℤ c) ≡ a *ℤ b +ℤ a *ℤ c
*ℤ_distribˡ a b c = *ℤ_comm a (b +ℤ c) ∙ *ℤ_distribʳ b c a ∙ ap (λ (x : ℤ). x +ℤ c *ℤ a) (*ℤ_comm b a) ∙ ap (λ (x : ℤ). a *ℤ b +ℤ x) (*ℤ_comm c a)

-- (- a) * c = - (a * c)
pub neg-*ℤ : (a c : ℤ) → neg_ℤ a *ℤ c ≡ neg_ℤ (a *ℤ c)
neg-*ℤ (pos zero) c = zero-*ℤ c ∙ ap neg_ℤ (sym (zero-*ℤ c))
neg-*ℤ (pos (suc n)) (pos m) = refl
neg-*ℤ (pos (suc n)) (negsuc m) = sym (neg_ℤ-neg_ℤ (pos (suc n * suc m)))
neg-*ℤ (negsuc n) (pos m) = sym (neg_ℤ-neg_ℤ (pos (suc n * m)))
neg-*ℤ (negsuc n) (negsuc m) = refl

pub *ℤ_assoc : (a b c : ℤ) → (a *ℤ b) *ℤ c ≡ a *ℤ (b *ℤ c)
*ℤ_assoc a b c = updown (λ (a : ℤ). (a *ℤ b) *ℤ c ≡ a *ℤ (b *ℤ c))
    (ap (λ (x : ℤ). x *ℤ c) (zero-*ℤ b) ∙ zero-*ℤ c ∙ sym (zero-*ℤ (b *ℤ c)))
    (λ a h. ap (λ (x : ℤ). x *ℤ c) (suc_ℤ-*ℤ a b) ∙ *ℤ_distribʳ (a *ℤ b) b c ∙ ap (λ (x : ℤ). x +ℤ b *ℤ c) h ∙ sym (suc_ℤ-*ℤ a (b *ℤ c)))
    (λ a h. ap (λ (x : ℤ). x *ℤ c) (pred_ℤ-*ℤ a b) ∙ *ℤ_distribʳ (a *ℤ b) (neg_ℤ b) c ∙ ap (λ (x : ℤ). x +ℤ neg_ℤ b *ℤ c) h ∙ ap (λ (x : ℤ). a *ℤ (b *ℤ c) +ℤ x) (neg-*ℤ b c) ∙ sym (pred_ℤ-*ℤ a (b *ℤ c)))
    a

pub *ℤ_idr : (a : ℤ) → a *ℤ pos 1 ≡ a
unfolding one
*ℤ_idr a = *ℤ-one a

double : (a b : ℤ) → (a +ℤ a) *ℤ b ≡ a *ℤ b +ℤ a *ℤ b
double a b = *ℤ_distribʳ a a b
