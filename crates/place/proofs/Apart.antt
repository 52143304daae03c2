-- `apart`, the distance of a value from a fraction, by the signs of the two: the gap of their sizes where they agree, else the sum.
-- Assumes nothing.
use mathlib.Core.Path.{◌≡◌, refl, sym, ap, ap₂, ◌∙◌}
use mathlib.Core.Bool.{Bool, true, false, not}
use Prim.Native.Nat.{ℕ, ◌+◌, ◌*◌}
use lib.IntN.{ℤ, pos, negsuc, neg_ℤ, nat_abs, ◌+ℤ◌, ◌-ℤ◌, ◌*ℤ◌, neg_ℤ-+ℤ, neg_ℤ-neg_ℤ}
use lib.Ieee.{up, down}
use Rattle.integers.proofs.Ring.{neg-*ℤ}
use Rattle.integers.proofs.Sizes.{abs_neg}
use Rattle.place.specs.Binary64.{signed, apart}
use Rattle.place.proofs.Gap.{gap, gap_is}

abbrev pub negative : ℤ → Bool
negative (pos n) = false
negative (negsuc n) = true

pub by_sign : (z : ℤ) → z ≡ signed (negative z) (nat_abs z)
by_sign (pos n) = refl
by_sign (negsuc n) = refl

pub signed_mul : (s : Bool) (a b : ℕ) → signed s a *ℤ pos b ≡ signed s (a * b)
signed_mul false a b = refl
signed_mul true a b = neg-*ℤ (pos a) (pos b)

like : (s : Bool) (a b : ℕ) → nat_abs (signed s a -ℤ signed s b) ≡ gap a b
like false a b = gap_is a b
like true a b = ap nat_abs (sym (neg_ℤ-+ℤ (pos a) (neg_ℤ (pos b)))) ∙ abs_neg (pos a -ℤ pos b) ∙ gap_is a b

unlike : (s : Bool) (a b : ℕ) → nat_abs (signed (not s) a -ℤ signed s b) ≡ a + b
unlike false a b = ap nat_abs (sym (neg_ℤ-+ℤ (pos a) (pos b))) ∙ abs_neg (pos (a + b))
unlike true a b = ap (λ (z : ℤ). nat_abs (pos a +ℤ z)) (neg_ℤ-neg_ℤ (pos b))

module _ (m : ℕ) (e z : ℤ) (d : ℕ) where
  sizes : (s : Bool) → apart s m e z d ≡ nat_abs (signed s (m * up e * d) -ℤ signed (negative z) (nat_abs z * down e))
  sizes s = ap₂ (λ (x y : ℤ). nat_abs (x -ℤ y)) (signed_mul s (m * up e) d) (ap (λ (x : ℤ). x *ℤ pos (down e)) (by_sign z) ∙ signed_mul (negative z) (nat_abs z) (down e))

  pub apart_like : apart (negative z) m e z d ≡ gap (m * up e * d) (nat_abs z * down e)
  apart_like = sizes (negative z) ∙ like (negative z) (m * up e * d) (nat_abs z * down e)

  pub apart_unlike : apart (not (negative z)) m e z d ≡ m * up e * d + nat_abs z * down e
  apart_unlike = sizes (not (negative z)) ∙ unlike (negative z) (m * up e * d) (nat_abs z * down e)
