-- Linear goals over ℤ by `omega`, each number read as a difference of two naturals, `hi` less `lo`. Bind each unknown: `let x' = unknown x in ..`
-- `≤_goal (search linear depth 60 fits 20000) (omega (arith, ≤_fact h (search linear depth 60 fits 20000)))`; `<` and `≡` likewise, in goal and facts.
-- `doubled` below is the example. A product of two unknowns is four unknown products. Assumes nothing.
use mathlib.Core.Path.{◌≡◌, sym, ap, ◌∙◌, subst}
use mathlib.Core.List.{[], ◌∷◌}
use Prim.Native.Nat.{ℕ, suc, ◌+◌, ◌*◌, ◌≤◌, ◌<◌}
use native.Mathlib.Nat.{le_antisymm}
use native.Mathlib.Omega.{arith}
use lib.Dec.{leb→le, le→leb, ltb→lt, lt→ltb}
use lib.IntN.{ℤ, pos, negsuc, neg_ℤ, ◌+ℤ◌, ◌-ℤ◌, ◌*ℤ◌, +ℤ_idl, +ℤ_idr}
use lib.Signed.{◌≤ℤ◌, ◌<ℤ◌, ≤ℤ_refl}
use Rattle.integers.proofs.Polynomial.{var, ◌:+◌, ◌:-◌, ◌:*◌, neg, ring}
use Rattle.integers.proofs.Signs.{≤_diff, diff-≤, <_diff, diff-<}
use Rattle.integers.proofs.Order.{≤_antisym}

abbrev pub up : ℤ → ℕ
up (pos n) = n
up (negsuc n) = 0

abbrev pub dn : ℤ → ℕ
dn (pos n) = 0
dn (negsuc n) = suc n

pub up_dn : (z : ℤ) → z ≡ pos (up z) -ℤ pos (dn z)
up_dn (pos n) = sym (+ℤ_idr (pos n))
up_dn (negsuc n) = sym (+ℤ_idl (negsuc n))

pub record Difference (z : ℤ) : Type 0 where
  pub hi : ℕ
  pub lo : ℕ
  pub is : z ≡ pos hi -ℤ pos lo

module _ (a b c d : ℕ) where
  pub add_is : (pos a -ℤ pos b) +ℤ (pos c -ℤ pos d) ≡ pos (a + c) -ℤ pos (b + d)
  add_is = ring (pos a ∷ pos b ∷ pos c ∷ pos d ∷ []) ((var 0 :- var 1) :+ (var 2 :- var 3)) ((var 0 :+ var 2) :- (var 1 :+ var 3)) tt

  pub mul_is : (pos a -ℤ pos b) *ℤ (pos c -ℤ pos d) ≡ pos (a * c + b * d) -ℤ pos (a * d + b * c)
  mul_is = ring (pos a ∷ pos b ∷ pos c ∷ pos d ∷ []) ((var 0 :- var 1) :* (var 2 :- var 3)) ((var 0 :* var 2 :+ var 1 :* var 3) :- (var 0 :* var 3 :+ var 1 :* var 2)) tt

pub neg_is : (a b : ℕ) → neg_ℤ (pos a -ℤ pos b) ≡ pos b -ℤ pos a
neg_is a b = ring (pos a ∷ pos b ∷ []) (neg (var 0 :- var 1)) (var 1 :- var 0) tt

abbrev pub l_add : {a b : ℤ} → Difference a → Difference b → Difference (a +ℤ b)
l_add x y = record { hi = x.hi + y.hi; lo = x.lo + y.lo; is = (λ i. x.is i +ℤ y.is i) ∙ add_is x.hi x.lo y.hi y.lo }

abbrev pub l_neg : {a : ℤ} → Difference a → Difference (neg_ℤ a)
l_neg x = record { hi = x.lo; lo = x.hi; is = ap neg_ℤ x.is ∙ neg_is x.hi x.lo }

abbrev pub l_mul : {a b : ℤ} → Difference a → Difference b → Difference (a *ℤ b)
l_mul x y = record { hi = x.hi * y.hi + x.lo * y.lo; lo = x.hi * y.lo + x.lo * y.hi; is = (λ i. x.is i *ℤ y.is i) ∙ mul_is x.hi x.lo y.hi y.lo }

abbrev pub l_pos : {n : ℕ} → Difference (pos n)
l_pos {n} = record { hi = n; lo = 0; is = sym (+ℤ_idr (pos n)) }

abbrev pub l_negsuc : {n : ℕ} → Difference (negsuc n)
l_negsuc {n} = record { hi = 0; lo = suc n; is = sym (+ℤ_idl (negsuc n)) }

-- an unknown. It is in no set, since `search` would take it for every number: the caller binds one for each unknown, `let x' = unknown x in ..`
abbrev pub unknown : (z : ℤ) → Difference z
unknown z = record { hi = up z; lo = dn z; is = up_dn z }

pub ruleset linear = (l_add, l_mul, l_neg, l_pos, l_negsuc)

-- ---- a fact, for `omega`'s list or a `let`
pub ≤_fact : {a b : ℤ} → a ≤ℤ b → (x : Difference (b -ℤ a)) → x.lo ≤ x.hi
≤_fact h x = leb→le x.lo x.hi (diff-≤ {a = pos x.lo} {b = pos x.hi} (subst (λ (z : ℤ). pos 0 ≤ℤ z) x.is (≤_diff h))).le

pub <_fact : {a b : ℤ} → a <ℤ b → (x : Difference (b -ℤ a)) → x.lo < x.hi
<_fact h x = ltb→lt x.lo x.hi (diff-< {a = pos x.lo} {b = pos x.hi} (subst (λ (z : ℤ). pos 0 <ℤ z) x.is (<_diff h))).lt

-- b - a and a - b
other : (a b : ℤ) → Difference (b -ℤ a) → Difference (a -ℤ b)
other a b x = record { hi = x.lo; lo = x.hi; is = ring (a ∷ b ∷ []) (var 0 :- var 1) (neg (var 1 :- var 0)) tt ∙ (l_neg x).is }

pub ≡_fact : {a b : ℤ} → a ≡ b → (x : Difference (b -ℤ a)) → x.lo ≡ x.hi
unfolding other
≡_fact {a} {b} e x =
    le_antisymm (≤_fact (subst (λ (z : ℤ). a ≤ℤ z) e (≤ℤ_refl a)) x) (≤_fact (subst (λ (z : ℤ). z ≤ℤ a) e (≤ℤ_refl a)) (other a b x))

-- ---- a goal, from what `omega` proves
pub ≤_goal : {a b : ℤ} (x : Difference (b -ℤ a)) → x.lo ≤ x.hi → a ≤ℤ b
≤_goal x h = diff-≤ (subst (λ (z : ℤ). pos 0 ≤ℤ z) (sym x.is) (≤_diff {a = pos x.lo} {b = pos x.hi} (record { le = le→leb x.lo x.hi h })))

pub <_goal : {a b : ℤ} (x : Difference (b -ℤ a)) → x.lo < x.hi → a <ℤ b
<_goal x h = diff-< (subst (λ (z : ℤ). pos 0 <ℤ z) (sym x.is) (<_diff {a = pos x.lo} {b = pos x.hi} (record { lt = lt→ltb x.lo x.hi h })))

pub ≡_goal : {a b : ℤ} (x : Difference (b -ℤ a)) → x.lo ≡ x.hi → a ≡ b
unfolding other
≡_goal {a} {b} x e = ≤_antisym (≤_goal x (omega arith)) (≤_goal (other a b x) (omega arith))

doubled : (x y z : ℤ) → x ≤ℤ y → (y +ℤ pos 1) <ℤ z → (x +ℤ x) <ℤ (z +ℤ z -ℤ pos 3)
doubled x y z h k =
    let x' = unknown x in let y' = unknown y in let z' = unknown z in
    <_goal (search linear depth 60 fits 20000) (omega (arith, ≤_fact h (search linear depth 60 fits 20000), <_fact k (search linear depth 60 fits 20000)))
