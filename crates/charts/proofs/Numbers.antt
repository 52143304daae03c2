-- Tests on signed numbers and on what they answer, from the branches of the code that asks them.
-- A signed argument comes back from its bits: `kept h : to_z w32 (of_z w32 z) ≡ z`. Assumes nothing.
use mathlib.Core.Path.{◌≡◌, refl, sym, ◌∙◌}
use mathlib.Core.Bool.{Bool, true, false, ◌&&◌, ◌||◌}
use Prim.Native.Nat.{◌<◌, ◌^◌}
use lib.Dec.{eqb}
use lib.IntN.{ℤ}
use lib.Signed.{mag, lt_z}
use mir.Syntax.{Width, w32}
use mir.Val.{SFits, hbits, of_z, to_z}
use mir.Facts.{to_z-of_z}
use Rattle.integers.proofs.Tests.{m_yes, m_no, t_eq, i_fits}
use Rattle.charts.specs.Fault.{eq_z}
use Rattle.charts.proofs.Rows.{is_true, is_false, says_eq}

-- what a callee says of its answer, and what a test on the answer shows
pub shown {ℓ} : {A : Type ℓ} {r s t : A} → r ≡ s → r ≡ t → s ≡ t
shown e k = sym e ∙ k

-- `a || b` and `a && b` as the code takes them: b is asked only where a does not decide
pub or_yes : {r a : Bool} (b : Bool) → r ≡ a → r ≡ true → r ≡ (a || b)
or_yes b e k = k ∙ rw (shown e k)

pub or_no : {r a b : Bool} → a ≡ false → r ≡ b → r ≡ (a || b)
or_no k e = e ∙ rw k

pub and_yes : {r a b : Bool} → a ≡ true → r ≡ b → r ≡ (a && b)
and_yes k e = e ∙ rw k

pub and_no : {r a : Bool} (b : Bool) → r ≡ a → r ≡ false → r ≡ (a && b)
and_no b e k = k ∙ rw (shown e k)

module _ {y z : ℤ} (f : SFits w32 y) (g : SFits w32 z) where
  pub lt_kept : lt_z (to_z w32 (of_z w32 y)) (to_z w32 (of_z w32 z)) ≡ lt_z y z
  lt_kept = rw (to_z-of_z f, to_z-of_z g)

-- two numbers are the same where their bits are
module _ (w : Width) (a b : ℤ) (f : SFits w a) (g : SFits w b) where
  pub eq_bits : eqb (of_z w a) (of_z w b) ≡ eq_z a b
  eq_bits = go (eqb (of_z w a) (of_z w b)) refl
    where
      go : (t : Bool) → eqb (of_z w a) (of_z w b) ≡ t → eqb (of_z w a) (of_z w b) ≡ eq_z a b
      go true e = e ∙ sym (is_true (says_eq a b) (m_yes e (t_eq w (i_fits f) (i_fits g)) tt))
      go false e = e ∙ sym (is_false (says_eq a b) (m_no e (t_eq w (i_fits f) (i_fits g)) tt))

-- a callee's answer, passed on
pub told : (w : Width) (r : ℤ) {z : ℤ} → mag r < 2 ^ hbits w → r ≡ z → to_z w (of_z w r) ≡ z
told w r h e = to_z-of_z {w = w} {z = r} (record { sfits = h }) ∙ e
