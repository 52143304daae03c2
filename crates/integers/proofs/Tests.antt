-- What a branch on signed numbers says. It leaves `lt_z a b ≡ true` (`c.if1.taken`) or `≡ false` (`c.if1.left`), of bits.
-- `m_yes c.if1.taken (search ranged depth 60 fits 20000) tt : a <ℤ b`, and `m_no` of `.left` the opposite. A branch on `==`: `m_same`, `m_differ`.
-- `under` below is the example. Assumes nothing.
use mathlib.Core.Path.{◌≡◌, sym, ap, ◌∙◌, subst}
use mathlib.Core.Bool.{Bool, true, false, not, ◌&&◌}
use Prim.Native.Nat.{ℕ, ◌^◌, ◌<◌}
use lib.Dec.{T, T_not, eqb, eqb→eq, eqb_refl}
use lib.IntN.{ℤ}
use lib.Signed.{mag, lt_z, le_z, ◌<ℤ◌, ◌≤ℤ◌, lt_z_yes, le_z_yes, lt_z_no}
use mir.Syntax.{Width, w64}
use mir.Val.{Fits, SFits, to_z, of_z, hbits}
use mir.ValLaws.{to_z-of_z}
use mir.Facts.{to_z_inj}
use Rattle.integers.proofs.Order.{le_z_no}
use Rattle.integers.proofs.Machine.{Mach, and_l, and_r, m_small, m_kept, m_result, steps}
use Rattle.integers.proofs.Unsigned.{m_unsigned, s_size}

pub record Test (t : Bool) : Type 1 where
  pub fine : Bool
  pub Yes : Type 0
  pub No : Type 0
  pub yes : T fine → T t → Yes
  pub no : T fine → T (not t) → No

pub carry : {a b : ℤ} (x : Mach a) (y : Mach b) → T (x.good && y.good) → (R : ℤ → ℤ → Type 0) → R a b → R x.plain y.plain
carry {a} {b} x y t R r = subst (λ (z : ℤ). R z y.plain) (x.is (and_l x.good y.good t)) (subst (R a) (y.is (and_r x.good y.good t)) r)

abbrev pub t_lt : {a b : ℤ} → Mach a → Mach b → Test (lt_z a b)
t_lt x y = record {
  fine = x.good && y.good;
  Yes = x.plain <ℤ y.plain;
  No = y.plain ≤ℤ x.plain;
  yes = λ g t. carry x y g ◌<ℤ◌ (lt_z_yes t);
  no = λ g t. carry x y g (λ (u v : ℤ). v ≤ℤ u) (lt_z_no t);
}

abbrev pub t_le : {a b : ℤ} → Mach a → Mach b → Test (le_z a b)
t_le x y = record {
  fine = x.good && y.good;
  Yes = x.plain ≤ℤ y.plain;
  No = y.plain <ℤ x.plain;
  yes = λ g t. carry x y g ◌≤ℤ◌ (le_z_yes t);
  no = λ g t. carry x y g (λ (u v : ℤ). v <ℤ u) (le_z_no t);
}

-- a test's answer as `T`, for laws of the kit
pub holds : {t : Bool} → t ≡ true → T t
holds e = subst T (sym e) tt

pub fails : {t : Bool} → t ≡ false → T (not t)
fails e = subst (λ (t : Bool). T (not t)) (sym e) tt

pub m_yes : {t : Bool} → t ≡ true → (x : Test t) → T x.fine → x.Yes
m_yes e x g = x.yes g (holds e)

pub m_no : {t : Bool} → t ≡ false → (x : Test t) → T x.fine → x.No
m_no e x g = x.no g (fails e)

-- a branch on `==` leaves an equation of bits, or its denial
pub m_same : (w : Width) {m n : ℕ} → m ≡ n → (x : Mach (to_z w m)) (y : Mach (to_z w n)) → T (x.good && y.good) → x.plain ≡ y.plain
m_same w e x y t = sym (x.is (and_l x.good y.good t)) ∙ ap (to_z w) e ∙ y.is (and_r x.good y.good t)

pub m_differ : (w : Width) {m n : ℕ} → (m ≡ n → ⊥) → Fits w m → Fits w n → (x : Mach (to_z w m)) (y : Mach (to_z w n)) → T (x.good && y.good) → x.plain ≡ y.plain → ⊥
m_differ w d f g x y t e = d (to_z_inj f g (x.is (and_l x.good y.good t) ∙ e ∙ sym (y.is (and_r x.good y.good t))))

-- the range of an operand of `==`, for the case that it fails
pub record In (w : Width) (z : ℤ) : Type 0 where
  pub fit : SFits w z

abbrev pub i_fits : {w : Width} {z : ℤ} → SFits w z → In w z
i_fits h = record { fit = h }

abbrev pub i_mag : (w : Width) (z : ℤ) → mag z < 2 ^ hbits w → In w z
i_mag w z h = record { fit = record { sfits = h } }

abbrev pub t_eq : (w : Width) {a b : ℤ} → In w a → In w b → Test (eqb (of_z w a) (of_z w b))
t_eq w {a} {b} f g = record {
  fine = true;
  Yes = a ≡ b;
  No = (a ≡ b → ⊥);
  yes = λ _ t. sym (to_z-of_z w a f.fit) ∙ ap (to_z w) (eqb→eq (of_z w a) (of_z w b) t) ∙ to_z-of_z w b g.fit;
  no = λ _ t e. T_not (eqb (of_z w a) (of_z w a)) (subst (λ (z : ℤ). T (not (eqb (of_z w a) (of_z w z)))) (sym e) t) (eqb_refl (of_z w a));
}

pub ruleset tests = (t_lt, t_le, t_eq, i_fits, i_mag)

-- `sized` wants a `Small` fact of every leaf, `ranged` only that it is in its type's range. Two sets: in one, `search` would take the second for the first
pub ruleset sized = (tests, steps, m_small, s_size)

pub ruleset ranged = (tests, steps, m_kept, m_result, m_unsigned, s_size)

under : (x y : ℤ) → SFits w64 x → SFits w64 y → lt_z (to_z w64 (of_z w64 x)) (to_z w64 (of_z w64 y)) ≡ true → x <ℤ y
under x y f g h = m_yes h (search ranged depth 60 fits 20000) tt
