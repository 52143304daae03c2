-- Identities of polynomials over ℤ by computation: `ring ρ e f tt : eval ρ e ≡ eval ρ f`, with ρ the values of the variables.
-- Callers want `by_ring` of Identity.antt, which finds e and f itself; `commuted` below calls `ring` by hand.
-- Assumes nothing.
use mathlib.Core.Path.{◌≡◌, refl, sym, ap, ◌∙◌}
use mathlib.Core.Bool.{Bool, true, false, ◌&&◌}
use mathlib.Core.List.{List, [], ◌∷◌}
use Prim.Native.Nat.{ℕ, zero, suc}
use lib.Dec.{T}
use lib.IntN.{ℤ, pos, negsuc, neg_ℤ, ◌+ℤ◌, ◌-ℤ◌, ◌*ℤ◌, +ℤ_assoc, +ℤ_comm, +ℤ_idl, +ℤ_idr, zero-*ℤ, *ℤ_comm, -ℤ-+ℤ_cancel}
use Rattle.integers.proofs.Ring.{+ℤ-swap, *ℤ_distribʳ, *ℤ_distribˡ, *ℤ_assoc, neg-*ℤ, *ℤ_idr}

infixl 60 ◌:+◌ ◌:-◌
infixl 70 ◌:*◌
pub data Expr : Type 0 where
  var : ℕ → Expr
  con : ℤ → Expr
  ◌:+◌ : Expr → Expr → Expr
  ◌:-◌ : Expr → Expr → Expr
  ◌:*◌ : Expr → Expr → Expr
  neg : Expr → Expr

abbrev pub first : List ℤ → ℤ
first [] = pos zero
first (x ∷ ρ) = x

abbrev pub rest : List ℤ → List ℤ
rest [] = []
rest (x ∷ ρ) = ρ

abbrev pub look : List ℤ → ℕ → ℤ
look ρ zero = first ρ
look ρ (suc n) = look (rest ρ) n

abbrev pub eval : List ℤ → Expr → ℤ
eval ρ (var i) = look ρ i
eval ρ (con c) = c
eval ρ (a :+ b) = eval ρ a +ℤ eval ρ b
eval ρ (a :- b) = eval ρ a -ℤ eval ρ b
eval ρ (a :* b) = eval ρ a *ℤ eval ρ b
eval ρ (neg a) = neg_ℤ (eval ρ a)

-- Horner form over the variables in order: a constant; a polynomial in the variables after the first; or P x + Q, with x the first variable and Q in those after it. No monomials are compared, so no order of them is needed
pub data Pol : Type 0 where
  cst : ℤ → Pol
  skip : Pol → Pol
  hor : Pol → Pol → Pol

abbrev pub val : List ℤ → Pol → ℤ
val ρ (cst c) = c
val ρ (skip P) = val (rest ρ) P
val ρ (hor P Q) = val ρ P *ℤ first ρ +ℤ val (rest ρ) Q

abbrev pub add_c : ℤ → Pol → Pol
add_c c (cst d) = cst (c +ℤ d)
add_c c (skip P) = skip (add_c c P)
add_c c (hor P Q) = hor P (add_c c Q)

abbrev pub add : Pol → Pol → Pol
add (cst c) R = add_c c R
add (skip P) (cst c) = skip (add_c c P)
add (skip P) (skip R) = skip (add P R)
add (skip P) (hor R S) = hor R (add P S)
add (hor P Q) (cst c) = hor P (add_c c Q)
add (hor P Q) (skip R) = hor P (add Q R)
add (hor P Q) (hor R S) = hor (add P R) (add Q S)

abbrev pub scale : ℤ → Pol → Pol
scale c (cst d) = cst (c *ℤ d)
scale c (skip P) = skip (scale c P)
scale c (hor P Q) = hor (scale c P) (scale c Q)

-- the product by a polynomial over the later variables, f
abbrev pub mul_s : (Pol → Pol) → Pol → Pol
mul_s f (cst c) = skip (f (cst c))
mul_s f (skip R) = skip (f R)
mul_s f (hor R S) = hor (mul_s f R) (f S)

abbrev pub mul : Pol → Pol → Pol
mul (cst c) R = scale c R
mul (skip P) R = mul_s (mul P) R
mul (hor P Q) R = add (hor (mul P R) (cst (pos 0))) (mul_s (mul Q) R)

abbrev pub var_p : ℕ → Pol
var_p zero = hor (cst (pos 1)) (cst (pos 0))
var_p (suc n) = skip (var_p n)

abbrev pub norm : Expr → Pol
norm (var i) = var_p i
norm (con c) = cst c
norm (a :+ b) = add (norm a) (norm b)
norm (a :- b) = add (norm a) (scale (negsuc 0) (norm b))
norm (a :* b) = mul (norm a) (norm b)
norm (neg a) = scale (negsuc 0) (norm a)

abbrev pub is_z : ℤ → Bool
is_z (pos zero) = true
is_z (pos (suc n)) = false
is_z (negsuc n) = false

abbrev pub is_zero : Pol → Bool
is_zero (cst c) = is_z c
is_zero (skip P) = is_zero P
is_zero (hor P Q) = is_zero P && is_zero Q

-- ---- each step keeps the value
left : (a b c : ℤ) → a +ℤ (b +ℤ c) ≡ b +ℤ (a +ℤ c)
left a b c = sym (+ℤ_assoc a b c) ∙ ap (λ (x : ℤ). x +ℤ c) (+ℤ_comm a b) ∙ +ℤ_assoc b a c

add_c_val : (ρ : List ℤ) (c : ℤ) (P : Pol) → val ρ (add_c c P) ≡ c +ℤ val ρ P
add_c_val ρ c (cst d) = refl
add_c_val ρ c (skip P) = add_c_val (rest ρ) c P
add_c_val ρ c (hor P Q) =
    ap (λ (x : ℤ). val ρ P *ℤ first ρ +ℤ x) (add_c_val (rest ρ) c Q)
    ∙ left (val ρ P *ℤ first ρ) c (val (rest ρ) Q)

add_val : (ρ : List ℤ) (P R : Pol) → val ρ (add P R) ≡ val ρ P +ℤ val ρ R
add_val ρ (cst c) R = add_c_val ρ c R
add_val ρ (skip P) (cst c) = add_c_val (rest ρ) c P ∙ +ℤ_comm c (val (rest ρ) P)
add_val ρ (skip P) (skip R) = add_val (rest ρ) P R
add_val ρ (skip P) (hor R S) = ap (λ (x : ℤ). val ρ R *ℤ first ρ +ℤ x) (add_val (rest ρ) P S) ∙ left (val ρ R *ℤ first ρ) (val (rest ρ) P) (val (rest ρ) S)
add_val ρ (hor P Q) (cst c) =
    ap (λ (x : ℤ). val ρ P *ℤ first ρ +ℤ x) (add_c_val (rest ρ) c Q ∙ +ℤ_comm c (val (rest ρ) Q)) ∙ sym (+ℤ_assoc (val ρ P *ℤ first ρ) (val (rest ρ) Q) c)
add_val ρ (hor P Q) (skip R) = ap (λ (x : ℤ). val ρ P *ℤ first ρ +ℤ x) (add_val (rest ρ) Q R) ∙ sym (+ℤ_assoc (val ρ P *ℤ first ρ) (val (rest ρ) Q) (val (rest ρ) R))
add_val ρ (hor P Q) (hor R S) =
    (λ i. add_val ρ P R i *ℤ first ρ +ℤ add_val (rest ρ) Q S i)
    ∙ ap (λ (x : ℤ). x +ℤ (val (rest ρ) Q +ℤ val (rest ρ) S)) (*ℤ_distribʳ (val ρ P) (val ρ R) (first ρ))
    ∙ +ℤ-swap (val ρ P *ℤ first ρ) (val ρ R *ℤ first ρ) (val (rest ρ) Q) (val (rest ρ) S)

scale_val : (ρ : List ℤ) (c : ℤ) (P : Pol) → val ρ (scale c P) ≡ c *ℤ val ρ P
scale_val ρ c (cst d) = refl
scale_val ρ c (skip P) = scale_val (rest ρ) c P
scale_val ρ c (hor P Q) =
    (λ i. scale_val ρ c P i *ℤ first ρ +ℤ scale_val (rest ρ) c Q i)
    ∙ ap (λ (x : ℤ). x +ℤ c *ℤ val (rest ρ) Q) (*ℤ_assoc c (val ρ P) (first ρ))
    ∙ sym (*ℤ_distribˡ c (val ρ P *ℤ first ρ) (val (rest ρ) Q))

mul_s_val : (ρ : List ℤ) (f : Pol → Pol) (z : ℤ) → ((R : Pol) → val (rest ρ) (f R) ≡ z *ℤ val (rest ρ) R) → (R : Pol) → val ρ (mul_s f R) ≡ z *ℤ val ρ R
mul_s_val ρ f z h (cst c) = h (cst c)
mul_s_val ρ f z h (skip R) = h R
mul_s_val ρ f z h (hor R S) =
    (λ i. mul_s_val ρ f z h R i *ℤ first ρ +ℤ h S i)
    ∙ ap (λ (x : ℤ). x +ℤ z *ℤ val (rest ρ) S) (*ℤ_assoc z (val ρ R) (first ρ))
    ∙ sym (*ℤ_distribˡ z (val ρ R *ℤ first ρ) (val (rest ρ) S))

mul_val : (ρ : List ℤ) (P R : Pol) → val ρ (mul P R) ≡ val ρ P *ℤ val ρ R
mul_val ρ (cst c) R = scale_val ρ c R
mul_val ρ (skip P) R = mul_s_val ρ (mul P) (val (rest ρ) P) (λ S. mul_val (rest ρ) P S) R
mul_val ρ (hor P Q) R =
    add_val ρ (hor (mul P R) (cst (pos 0))) (mul_s (mul Q) R)
    ∙ (λ i. (+ℤ_idr (val ρ (mul P R) *ℤ first ρ) i) +ℤ mul_s_val ρ (mul Q) (val (rest ρ) Q) (λ S. mul_val (rest ρ) Q S) R i)
    ∙ ap (λ (x : ℤ). x *ℤ first ρ +ℤ val (rest ρ) Q *ℤ val ρ R) (mul_val ρ P R)
    ∙ ap (λ (x : ℤ). x +ℤ val (rest ρ) Q *ℤ val ρ R) (*ℤ_assoc (val ρ P) (val ρ R) (first ρ) ∙ ap (λ (x : ℤ). val ρ P *ℤ x) (*ℤ_comm (val ρ R) (first ρ)) ∙ sym (*ℤ_assoc (val ρ P) (first ρ) (val ρ R)))
    ∙ sym (*ℤ_distribʳ (val ρ P *ℤ first ρ) (val (rest ρ) Q) (val ρ R))

one-*ℤ : (a : ℤ) → pos 1 *ℤ a ≡ a
one-*ℤ a = *ℤ_comm (pos 1) a ∙ *ℤ_idr a

minus_one : (a : ℤ) → negsuc 0 *ℤ a ≡ neg_ℤ a
minus_one a = neg-*ℤ (pos 1) a ∙ ap neg_ℤ (one-*ℤ a)

var_p_val : (ρ : List ℤ) (n : ℕ) → val ρ (var_p n) ≡ look ρ n
var_p_val ρ zero = +ℤ_idr (pos 1 *ℤ first ρ) ∙ one-*ℤ (first ρ)
var_p_val ρ (suc n) = var_p_val (rest ρ) n

pub norm_val : (ρ : List ℤ) (e : Expr) → val ρ (norm e) ≡ eval ρ e
norm_val ρ (var i) = var_p_val ρ i
norm_val ρ (con c) = refl
norm_val ρ (a :+ b) = add_val ρ (norm a) (norm b) ∙ (λ i. norm_val ρ a i +ℤ norm_val ρ b i)
norm_val ρ (a :- b) =
    add_val ρ (norm a) (scale (negsuc 0) (norm b))
    ∙ ap (λ (x : ℤ). val ρ (norm a) +ℤ x) (scale_val ρ (negsuc 0) (norm b) ∙ minus_one (val ρ (norm b)))
    ∙ (λ i. norm_val ρ a i -ℤ norm_val ρ b i)
norm_val ρ (a :* b) = mul_val ρ (norm a) (norm b) ∙ (λ i. norm_val ρ a i *ℤ norm_val ρ b i)
norm_val ρ (neg a) = scale_val ρ (negsuc 0) (norm a) ∙ minus_one (val ρ (norm a)) ∙ ap neg_ℤ (norm_val ρ a)

is_z_val : (c : ℤ) → T (is_z c) → c ≡ pos 0
is_z_val (pos zero) t = refl
is_z_val (pos (suc n)) t = absurd t
is_z_val (negsuc n) t = absurd t

both : (a b : Bool) → T (a && b) → T a × T b
both true b t = (tt, t)
both false b t = absurd t

is_zero_val : (ρ : List ℤ) (P : Pol) → T (is_zero P) → val ρ P ≡ pos 0
is_zero_val ρ (cst c) t = is_z_val c t
is_zero_val ρ (skip P) t = is_zero_val (rest ρ) P t
is_zero_val ρ (hor P Q) t =
    (λ i. is_zero_val ρ P (both (is_zero P) (is_zero Q) t).0 i *ℤ first ρ +ℤ is_zero_val (rest ρ) Q (both (is_zero P) (is_zero Q) t).1 i)
    ∙ ap (λ (x : ℤ). x +ℤ pos 0) (zero-*ℤ (first ρ))

-- e is 0 at every ρ
pub ring0 : (ρ : List ℤ) (e : Expr) → T (is_zero (norm e)) → eval ρ e ≡ pos 0
ring0 ρ e t = sym (norm_val ρ e) ∙ is_zero_val ρ (norm e) t

pub ring : (ρ : List ℤ) (e f : Expr) → T (is_zero (norm (e :- f))) → eval ρ e ≡ eval ρ f
ring ρ e f t =
    sym (-ℤ-+ℤ_cancel (eval ρ e) (eval ρ f)) ∙ ap (λ (x : ℤ). x +ℤ eval ρ f) (ring0 ρ (e :- f) t) ∙ +ℤ_idl (eval ρ f)

commuted : (a b : ℤ) → a *ℤ b ≡ b *ℤ a
commuted a b = ring (a ∷ b ∷ []) (var 0 :* var 1) (var 1 :* var 0) tt
