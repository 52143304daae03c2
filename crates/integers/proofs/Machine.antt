-- What a computation in i8 to i64 comes to. Its locals hold bits, so a need speaks of `to_z w64 (of_z w64 z)` at each step; `Mach z` reads such a z.
-- It fits: `m_fits (search ranged depth 60 fits 20000) tt`. It is the formula: `m_eq (..) tt`. It is bounded: `m_bound (..) tt : Small A z`.
-- The sets `ranged` and `sized` are in Tests.antt. `product` below is the example. Assumes nothing.
use mathlib.Core.Path.{◌≡◌, refl, sym, ap, ◌∙◌, subst}
use mathlib.Core.Bool.{Bool, true, false, ◌&&◌}
use Prim.Native.Nat.{ℕ, suc, ◌+◌, ◌*◌, ◌^◌, ◌≤◌, ◌<◌}
use native.Mathlib.Nat.{le_trans, le_refl, le-suc, le_of_eq, mul-le-mul, lt_of_le_of_lt}
use native.Mathlib.Omega.{arith}
use lib.Dec.{T, leb, leb→le, ltb, ltb→lt}
use lib.IntN.{ℤ, pos, negsuc, neg_ℤ, nat_abs, ◌+ℤ◌, ◌-ℤ◌, ◌*ℤ◌}
use lib.Signed.{mag, nat_abs-le}
use mir.Syntax.{Width, w64}
use mir.Val.{SFits, to_z, of_z, hbits}
use mir.ValLaws.{to_z-of_z}
use Rattle.integers.specs.Size.{Small}
use Rattle.integers.proofs.Sizes.{abs-+, abs_neg, abs-*}

sfits_abs : (w : Width) (z : ℤ) → nat_abs z < 2 ^ hbits w → SFits w z
sfits_abs w (pos n) h = record { sfits = h }
sfits_abs w (negsuc n) h = record { sfits = le_trans (le-suc (suc n)) h }

-- ---- the reading: `plain` is the same number with no bits in it, `top` bounds its size, and `good` computes to true where every result on the way fits
pub record Mach (z : ℤ) : Type 0 where
  pub plain : ℤ
  pub top : ℕ
  pub good : Bool
  pub is : T good → z ≡ plain
  pub ok : T good → nat_abs plain ≤ top

pub and_l : (a b : Bool) → T (a && b) → T a
and_l true b t = tt
and_l false b t = absurd t

pub and_r : (a b : Bool) → T (a && b) → T b
and_r true b t = t
and_r false b t = absurd t

pub in_range : (w : Width) {z : ℤ} (x : Mach z) → T (x.good && ltb x.top (2 ^ hbits w)) → SFits w z
in_range w x t =
    let g = and_l x.good (ltb x.top (2 ^ hbits w)) t in
    let b = and_r x.good (ltb x.top (2 ^ hbits w)) t in
    subst (SFits w) (sym (x.is g)) (sfits_abs w x.plain (lt_of_le_of_lt (x.ok g) (ltb→lt x.top (2 ^ hbits w) b)))

abbrev pub m_add : {a b : ℤ} → Mach a → Mach b → Mach (a +ℤ b)
m_add x y = record {
  plain = x.plain +ℤ y.plain;
  top = x.top + y.top;
  good = x.good && y.good;
  is = λ t i. x.is (and_l x.good y.good t) i +ℤ y.is (and_r x.good y.good t) i;
  ok = λ t. let p = x.ok (and_l x.good y.good t) in let q = y.ok (and_r x.good y.good t) in let r = abs-+ x.plain y.plain in omega arith;
}

abbrev pub m_neg : {a : ℤ} → Mach a → Mach (neg_ℤ a)
m_neg x = record {
  plain = neg_ℤ x.plain;
  top = x.top;
  good = x.good;
  is = λ t i. neg_ℤ (x.is t i);
  ok = λ t. le_trans (le_of_eq (abs_neg x.plain)) (x.ok t);
}

abbrev pub m_mul : {a b : ℤ} → Mach a → Mach b → Mach (a *ℤ b)
m_mul x y = record {
  plain = x.plain *ℤ y.plain;
  top = x.top * y.top;
  good = x.good && y.good;
  is = λ t i. x.is (and_l x.good y.good t) i *ℤ y.is (and_r x.good y.good t) i;
  ok = λ t. le_trans (le_of_eq (abs-* x.plain y.plain)) (mul-le-mul (x.ok (and_l x.good y.good t)) (y.ok (and_r x.good y.good t)));
}

-- back from the bits, at the width w
abbrev pub m_back : (w : Width) {z : ℤ} → Mach z → Mach (to_z w (of_z w z))
m_back w {z} x = record {
  plain = x.plain;
  top = x.top;
  good = x.good && ltb x.top (2 ^ hbits w);
  is = λ t. to_z-of_z w z (in_range w x t) ∙ x.is (and_l x.good (ltb x.top (2 ^ hbits w)) t);
  ok = λ t. x.ok (and_l x.good (ltb x.top (2 ^ hbits w)) t);
}

abbrev pub m_pos : {n : ℕ} → Mach (pos n)
m_pos {n} = record { plain = pos n; top = n; good = true; is = λ t. refl; ok = λ t. le_refl n }

abbrev pub m_negsuc : {n : ℕ} → Mach (negsuc n)
m_negsuc {n} = record { plain = negsuc n; top = suc n; good = true; is = λ t. refl; ok = λ t. le_refl (suc n) }

-- ---- leaves
abbrev pub m_small : {A : ℕ} {z : ℤ} → Small A z → Mach z
m_small {A} {z} h = record { plain = z; top = A; good = true; is = λ t. refl; ok = λ t. h.small }

-- of which an equation is known, as a call's result (`c.f.ensures`); in no set: `search (ranged, m_is) ..`
abbrev pub m_is : {r z : ℤ} → r ≡ z → Mach z → Mach r
m_is e x = record { plain = x.plain; top = x.top; good = x.good; is = λ t. e ∙ x.is t; ok = x.ok }

-- of which only the type's range is known: a parameter (`c.fits.x`), a call's result (`c.f.ok`). Below 64 bits that is a bound to compute with
abbrev pub m_range : {w : Width} {z : ℤ} → SFits w z → Mach z
m_range {w} {z} h = record { plain = z; top = 2 ^ hbits w; good = true; is = λ t. refl; ok = λ t. nat_abs-le z h.sfits }

abbrev pub m_kept : {w : Width} {z : ℤ} → SFits w z → Mach (to_z w (of_z w z))
m_kept {w} {z} h = m_is (to_z-of_z w z h) (m_range h)

abbrev pub m_result : (w : Width) (z : ℤ) → mag z < 2 ^ hbits w → Mach (to_z w (of_z w z))
m_result w z h = m_kept {w = w} {z = z} (record { sfits = h })

-- ---- what a need asks
pub m_fits : {w : Width} {z : ℤ} (x : Mach z) → T (x.good && ltb x.top (2 ^ hbits w)) → SFits w z
m_fits {w} x t = in_range w x t

pub m_eq : {z : ℤ} (x : Mach z) → T x.good → z ≡ x.plain
m_eq x t = x.is t

-- what is to be shown of z, of the plain number
pub m_carry : (P : ℤ → Type 0) {z : ℤ} (x : Mach z) → T x.good → P x.plain → P z
m_carry P x t p = subst P (sym (x.is t)) p

-- the same of a variable that branches changed, whose bits are m, from the equation of its bits in an arm
pub m_bits : (w : Width) (P : ℤ → Type 0) {m n : ℕ} → m ≡ n → (x : Mach (to_z w n)) → T x.good → P x.plain → P (to_z w m)
m_bits w P e x t p = subst (λ (k : ℕ). P (to_z w k)) (sym e) (m_carry P x t p)

pub m_bound : {A : ℕ} {z : ℤ} (x : Mach z) → T (x.good && leb x.top A) → Small A z
m_bound {A} x t =
    let g = and_l x.good (leb x.top A) t in
    record { small = le_trans (le_of_eq (ap nat_abs (x.is g))) (le_trans (x.ok g) (leb→le x.top A (and_r x.good (leb x.top A) t))) }

-- `steps` reads sums, products, negations and numerals
pub ruleset steps = (m_back, m_add, m_mul, m_neg, m_pos, m_negsuc)

product : (x y : ℤ) → Small 32767 x → Small 32767 y → to_z w64 (of_z w64 (to_z w64 (of_z w64 (x -ℤ y)) *ℤ y)) ≡ (x -ℤ y) *ℤ y
product x y s t = m_eq (search (steps, m_small) depth 60 fits 20000) tt
