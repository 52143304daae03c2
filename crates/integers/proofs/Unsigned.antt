-- `n as i64` of an unsigned n reads as `pos n`: by a `Fits` fact of n, in `ranged`; or by n < A, with `search (sized, m_under) ..`.
-- `z as u64` of a z at least 0 is `nat_abs z`: `m_cast w64 z (search ..) tt h` closes its need, h : pos 0 ≤ℤ z; `m_size` reads the size itself.
-- `byte_less_five` below is the example. Assumes nothing.
use mathlib.Core.Path.{◌≡◌, sym, ap, subst}
use mathlib.Core.Bool.{Bool, ◌&&◌}
use Prim.Native.Nat.{ℕ, ◌^◌, ◌<◌}
use native.Mathlib.Nat.{le_of_lt, lt_of_lt_of_le, lt_of_le_of_lt}
use lib.Dec.{T, leb, leb→le, ltb, ltb→lt}
use lib.IntN.{ℤ, pos, nat_abs, ◌-ℤ◌}
use lib.Signed.{non_neg, yes_non_neg, ◌≤ℤ◌}
use mir.Syntax.{Width, w8, w64}
use mir.Val.{Fits, to_z, of_z, bits, hbits}
use mir.ValLaws.{to_z_pos}
use Rattle.integers.proofs.Machine.{Mach, and_l, and_r, m_eq, steps}

abbrev pub m_under : (w : Width) {n A : ℕ} → n < A → Mach (to_z w n)
m_under w {n} {A} h = record {
  plain = pos n;
  top = A;
  good = leb A (2 ^ hbits w);
  is = λ t. to_z_pos w n (lt_of_lt_of_le h (leb→le A (2 ^ hbits w) t));
  ok = λ t. le_of_lt h;
}

abbrev pub m_unsigned : (w : Width) {v : Width} {n : ℕ} → Fits v n → Mach (to_z w n)
m_unsigned w h = m_under w h.fits

-- what a cast to an unsigned type asks, of a z at least 0. The goal does not show z, so it is written out
pub m_cast : (w : Width) (z : ℤ) (x : Mach z) → T (x.good && ltb x.top (2 ^ bits w)) → pos 0 ≤ℤ x.plain → T (non_neg z) × Fits w (nat_abs z)
m_cast w z x t h =
    let g = and_l x.good (ltb x.top (2 ^ bits w)) t in
    let b = and_r x.good (ltb x.top (2 ^ bits w)) t in
    let e = sym (x.is g) in
    (subst (λ (y : ℤ). T (non_neg y)) e (yes_non_neg h), subst (λ (y : ℤ). Fits w (nat_abs y)) e (record { fits = lt_of_le_of_lt (x.ok g) (ltb→lt x.top (2 ^ bits w) b) }))

-- a size that a call took of a signed number, as `c.size.ensures` has it: `c.size.ensures ∙ m_size (search ranged ..) tt`
pub record Size (n : ℕ) : Type 0 where
  pub plain : ℤ
  pub good : Bool
  pub is : T good → n ≡ nat_abs plain

abbrev pub s_size : (z : ℤ) → Mach z → Size (nat_abs z)
s_size z x = record { plain = x.plain; good = x.good; is = λ t. ap nat_abs (x.is t) }

pub m_size : {n : ℕ} (x : Size n) → T x.good → n ≡ nat_abs x.plain
m_size x t = x.is t

byte_less_five : (n : ℕ) → Fits w8 n → to_z w64 (of_z w64 (to_z w64 n -ℤ pos 5)) ≡ pos n -ℤ pos 5
byte_less_five n h = m_eq (search (steps, m_unsigned) depth 60 fits 20000) tt
