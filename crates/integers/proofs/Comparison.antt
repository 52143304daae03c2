-- The answer `three l e g a b` of a comparison: what it is, from an order (`three_less`, `three_equal`, `three_greater`, `three_neither`).
-- `by_three a b P f s t : P (three l e g a b)` goes by the three cases, each with its order in hand.
-- `flipped` below is the example: the same comparison, asked the other way round. Assumes nothing.
use mathlib.Core.Path.{◌≡◌, refl, sym, ◌∙◌, subst}
use mathlib.Core.Bool.{Bool, true, false, cond}
use lib.Dec.{T}
use lib.IntN.{ℤ}
use lib.Signed.{lt_z, ◌≤ℤ◌, ◌<ℤ◌, lt_z_yes, <ℤ_irrefl}
use Rattle.integers.specs.Order.{three}
use Rattle.integers.proofs.Order.{Tri, less, same, more, tri, <_asym, ≤_antisym}

module _ {A : Type 0} where
  cond_yes : (c : Bool) (x y : A) → T c → cond c x y ≡ x
  cond_yes true x y t = refl
  cond_yes false x y t = absurd t

  cond_no : (c : Bool) (x y : A) → ¬ (T c) → cond c x y ≡ y
  cond_no true x y f = absurd (f tt)
  cond_no false x y f = refl

module _ {A : Type 0} (l e g : A) {a b : ℤ} where
  pub three_less : a <ℤ b → three l e g a b ≡ l
  three_less h = cond_yes (lt_z a b) _ _ h.lt

  pub three_greater : b <ℤ a → three l e g a b ≡ g
  three_greater h = cond_no (lt_z a b) _ _ (λ t. <_asym h (lt_z_yes t)) ∙ cond_yes (lt_z b a) _ _ h.lt

  pub three_equal : a ≡ b → three l e g a b ≡ e
  three_equal x =
      cond_no (lt_z a b) _ _ (λ t. <ℤ_irrefl (subst (λ (z : ℤ). z <ℤ b) x (lt_z_yes t)))
      ∙ cond_no (lt_z b a) _ _ (λ t. <ℤ_irrefl (subst (λ (z : ℤ). b <ℤ z) x (lt_z_yes t)))

  -- what the last branch of a comparison knows: neither is below the other
  pub three_neither : a ≤ℤ b → b ≤ℤ a → three l e g a b ≡ e
  three_neither h k = three_equal (≤_antisym h k)

module _ {A : Type 0} {l e g : A} (a b : ℤ) (P : A → Type 0) where
  pub by_three : (a <ℤ b → P l) → (a ≡ b → P e) → (b <ℤ a → P g) → P (three l e g a b)
  by_three f s t = go (tri a b)
    where
      go : Tri a b → P (three l e g a b)
      go (less h) = subst P (sym (three_less l e g h)) (f h)
      go (same x) = subst P (sym (three_equal l e g x)) (s x)
      go (more h) = subst P (sym (three_greater l e g h)) (t h)

flipped : {A : Type 0} (l e g : A) (a b : ℤ) → three l e g a b ≡ three g e l b a
flipped {A} l e g a b =
    by_three a b (λ (x : A). x ≡ three g e l b a)
    (λ h. sym (three_greater g e l h)) (λ x. sym (three_equal g e l (sym x))) (λ h. sym (three_less g e l h))
