-- Identities of ℤ in one line: `by_ring ρ (search terms depth 60 fits 20000) tt`, with ρ the list of the goal's atoms, as in `square` below.
-- Refused at `tt` ("the two sides are ⊥ and Unit"): the identity is false. "No proof of `Read ..`": an atom or an `unfolding` is missing.
-- An atom `pos n` at a variable n is read as a constant: prove the identity of any z, and put `pos n` for z. Assumes nothing.
use mathlib.Core.Path.{◌≡◌, refl, sym, ap, ◌∙◌}
use mathlib.Core.List.{List, [], ◌∷◌}
use Prim.Native.Nat.{ℕ, zero, suc}
use lib.Dec.{T}
use lib.IntN.{ℤ, pos, negsuc, neg_ℤ, ◌+ℤ◌, ◌-ℤ◌, ◌*ℤ◌, -ℤ-+ℤ_cancel, +ℤ_idl}
use Rattle.integers.proofs.Polynomial.{Expr, var, con, ◌:+◌, ◌:*◌, neg, eval, look, norm, is_zero, ring0}

pub record Read (ρ : List ℤ) (z : ℤ) : Type 0 where
  pub ex : Expr
  pub is : eval ρ ex ≡ z

pub record At (ρ : List ℤ) (z : ℤ) : Type 0 where
  pub ix : ℕ
  pub is : look ρ ix ≡ z

abbrev pub here : {ρ : List ℤ} {z : ℤ} → At (z ∷ ρ) z
here = record { ix = zero; is = refl }

abbrev pub there : {ρ : List ℤ} {z y : ℤ} → At ρ z → At (y ∷ ρ) z
there a = record { ix = suc a.ix; is = a.is }

abbrev pub r_var : {ρ : List ℤ} {z : ℤ} → At ρ z → Read ρ z
r_var a = record { ex = var a.ix; is = a.is }

abbrev pub r_add : {ρ : List ℤ} {a b : ℤ} → Read ρ a → Read ρ b → Read ρ (a +ℤ b)
r_add x y = record { ex = x.ex :+ y.ex; is = λ i. x.is i +ℤ y.is i }

abbrev pub r_mul : {ρ : List ℤ} {a b : ℤ} → Read ρ a → Read ρ b → Read ρ (a *ℤ b)
r_mul x y = record { ex = x.ex :* y.ex; is = λ i. x.is i *ℤ y.is i }

abbrev pub r_neg : {ρ : List ℤ} {a : ℤ} → Read ρ a → Read ρ (neg_ℤ a)
r_neg x = record { ex = neg x.ex; is = λ i. neg_ℤ (x.is i) }

abbrev pub r_pos : {ρ : List ℤ} {n : ℕ} → Read ρ (pos n)
r_pos {n = n} = record { ex = con (pos n); is = refl }

abbrev pub r_negsuc : {ρ : List ℤ} {n : ℕ} → Read ρ (negsuc n)
r_negsuc {n = n} = record { ex = con (negsuc n); is = refl }

pub ruleset terms = (r_add, r_mul, r_neg, r_var, r_pos, r_negsuc, here, there)

-- the whole equation by one reading, of the difference of its sides
pub by_ring : (ρ : List ℤ) {a b : ℤ} (x : Read ρ (a -ℤ b)) → T (is_zero (norm x.ex)) → a ≡ b
by_ring ρ {a} {b} x t =
    sym (-ℤ-+ℤ_cancel a b) ∙ ap (λ (z : ℤ). z +ℤ b) (sym x.is ∙ ring0 ρ x.ex t) ∙ +ℤ_idl b

square : (a b : ℤ) → (a +ℤ b) *ℤ (a +ℤ b) ≡ a *ℤ a +ℤ pos 2 *ℤ (a *ℤ b) +ℤ b *ℤ b
square a b = by_ring (a ∷ b ∷ []) (search terms depth 60 fits 20000) tt
