-- The sign of sums, products and squares, and an order as the sign of a difference (`≤_diff` to it, `diff-≤` from it; `<` and `≡` likewise).
-- Names: n is a number at least 0, p above 0, z equal to 0, x any. So `p*p h k : pos 0 <ℤ (a *ℤ b)`; `search signs` builds such a sign, as in `both_diff` below.
-- Numbers below 0 are in Factors.antt. Assumes nothing.
use mathlib.Core.Path.{◌≡◌, sym, ap, ◌∙◌, subst}
use Prim.Native.Nat.{ℕ, zero, suc, ◌+◌, ◌*◌, zero-le, suc-le-suc}
use native.Mathlib.Nat.{le_of_suc-le-suc, not-suc-le-zero}
use native.Mathlib.Omega.{arith}
use lib.Dec.{T, leb→le, le→leb, ltb→lt, lt→ltb}
use lib.IntN.{ℤ, pos, negsuc, neg_ℤ, suc_ℤ, pred_ℤ, ◌+ℤ◌, ◌-ℤ◌, ◌*ℤ◌, +ℤ_invr, +ℤ_idl, +ℤ_idr, -ℤ-+ℤ_cancel, +ℤ-suc_ℤ, +ℤ-pred_ℤ, suc_ℤ-+ℤ, +ℤ_comm, *ℤ-zero}
use lib.Signed.{le_z, lt_z, ◌≤ℤ◌, ◌<ℤ◌}
use Rattle.integers.proofs.Ring.{updown}

-- ---- successors and predecessors keep the order, so a shift does
suc_mono : (a b : ℤ) → T (le_z a b) → T (le_z (suc_ℤ a) (suc_ℤ b))
suc_mono (pos a) (pos b) t = le→leb (suc a) (suc b) (suc-le-suc (leb→le a b t))
suc_mono (pos a) (negsuc b) t = absurd t
suc_mono (negsuc zero) (pos b) t = le→leb 0 (suc b) zero-le
suc_mono (negsuc zero) (negsuc zero) t = tt
suc_mono (negsuc zero) (negsuc (suc b)) t = absurd (not-suc-le-zero (leb→le (suc b) 0 t))
suc_mono (negsuc (suc a)) (pos b) t = tt
suc_mono (negsuc (suc a)) (negsuc zero) t = tt
suc_mono (negsuc (suc a)) (negsuc (suc b)) t = le→leb b a (le_of_suc-le-suc (leb→le (suc b) (suc a) t))

pred_mono : (a b : ℤ) → T (le_z a b) → T (le_z (pred_ℤ a) (pred_ℤ b))
pred_mono (pos zero) (pos zero) t = tt
pred_mono (pos zero) (pos (suc b)) t = tt
pred_mono (pos (suc a)) (pos zero) t = absurd (not-suc-le-zero (leb→le (suc a) 0 t))
pred_mono (pos (suc a)) (pos (suc b)) t = le→leb a b (le_of_suc-le-suc (leb→le (suc a) (suc b) t))
pred_mono (pos zero) (negsuc b) t = absurd t
pred_mono (pos (suc a)) (negsuc b) t = absurd t
pred_mono (negsuc a) (pos zero) t = le→leb 0 (suc a) zero-le
pred_mono (negsuc a) (pos (suc b)) t = tt
pred_mono (negsuc a) (negsuc b) t = le→leb (suc b) (suc a) (suc-le-suc (leb→le b a t))

shift : (a b c : ℤ) → T (le_z a b) → T (le_z (a +ℤ c) (b +ℤ c))
shift a b c t = updown (λ (c : ℤ). T (le_z (a +ℤ c) (b +ℤ c)))
    (subst (λ (x : ℤ). T (le_z x (b +ℤ pos 0))) (sym (+ℤ_idr a)) (subst (λ (x : ℤ). T (le_z a x)) (sym (+ℤ_idr b)) t))
    (λ c h. subst (λ (x : ℤ). T (le_z x (b +ℤ suc_ℤ c))) (sym (+ℤ-suc_ℤ a c)) (subst (λ (x : ℤ). T (le_z (suc_ℤ (a +ℤ c)) x)) (sym (+ℤ-suc_ℤ b c)) (suc_mono (a +ℤ c) (b +ℤ c) h)))
    (λ c h. subst (λ (x : ℤ). T (le_z x (b +ℤ pred_ℤ c))) (sym (+ℤ-pred_ℤ a c)) (subst (λ (x : ℤ). T (le_z (pred_ℤ (a +ℤ c)) x)) (sym (+ℤ-pred_ℤ b c)) (pred_mono (a +ℤ c) (b +ℤ c) h)))
    c

lt_suc : (a b : ℤ) → T (lt_z a b) → T (le_z (suc_ℤ a) b)
lt_suc (pos a) (pos b) t = t
lt_suc (pos a) (negsuc b) t = t
lt_suc (negsuc zero) (pos b) t = le→leb 0 b zero-le
lt_suc (negsuc zero) (negsuc b) t = not-suc-le-zero (leb→le (suc b) 0 t)
lt_suc (negsuc (suc a)) (pos b) t = tt
lt_suc (negsuc (suc a)) (negsuc b) t = le→leb b a (le_of_suc-le-suc (leb→le (suc b) (suc a) t))

suc_lt : (a b : ℤ) → T (le_z (suc_ℤ a) b) → T (lt_z a b)
suc_lt (pos a) (pos b) t = t
suc_lt (pos a) (negsuc b) t = t
suc_lt (negsuc zero) (pos b) t = tt
suc_lt (negsuc zero) (negsuc b) t = absurd t
suc_lt (negsuc (suc a)) (pos b) t = tt
suc_lt (negsuc (suc a)) (negsuc b) t = le→leb (suc b) (suc a) (suc-le-suc (leb→le b a t))

-- ---- an order is the sign of the difference
pub ≤_diff : {a b : ℤ} → a ≤ℤ b → pos 0 ≤ℤ (b -ℤ a)
≤_diff {a} {b} h = record { le = subst (λ (x : ℤ). T (le_z x (b -ℤ a))) (+ℤ_invr a) (shift a b (neg_ℤ a) h.le) }

pub diff-≤ : {a b : ℤ} → pos 0 ≤ℤ (b -ℤ a) → a ≤ℤ b
diff-≤ {a} {b} h = record { le = subst (λ (x : ℤ). T (le_z x b)) (+ℤ_idl a) (subst (λ (x : ℤ). T (le_z (pos 0 +ℤ a) x)) (-ℤ-+ℤ_cancel b a) (shift (pos 0) (b -ℤ a) a h.le)) }

pub <_diff : {a b : ℤ} → a <ℤ b → pos 0 <ℤ (b -ℤ a)
<_diff {a} {b} h = record { lt = suc_lt (pos 0) (b -ℤ a) (subst (λ (x : ℤ). T (le_z x (b -ℤ a))) (suc_ℤ-+ℤ a (neg_ℤ a) ∙ ap suc_ℤ (+ℤ_invr a)) (shift (suc_ℤ a) b (neg_ℤ a) (lt_suc a b h.lt))) }

pub diff-< : {a b : ℤ} → pos 0 <ℤ (b -ℤ a) → a <ℤ b
diff-< {a} {b} h = record { lt = suc_lt a b (subst (λ (x : ℤ). T (le_z x b)) (suc_ℤ-+ℤ (pos 0) a ∙ ap suc_ℤ (+ℤ_idl a)) (subst (λ (x : ℤ). T (le_z (pos 1 +ℤ a) x)) (-ℤ-+ℤ_cancel b a) (shift (pos 1) (b -ℤ a) a (lt_suc (pos 0) (b -ℤ a) h.lt)))) }

pub ≡_diff : {a b : ℤ} → a ≡ b → b -ℤ a ≡ pos 0
≡_diff {a} {b} e = subst (λ (x : ℤ). x -ℤ a ≡ pos 0) e (+ℤ_invr a)

pub diff-≡ : (a b : ℤ) → b -ℤ a ≡ pos 0 → a ≡ b
diff-≡ a b e = sym (+ℤ_idl a) ∙ ap (λ (x : ℤ). x +ℤ a) (sym e) ∙ -ℤ-+ℤ_cancel b a

-- ---- the signs
pub nat : (n : ℕ) → pos 0 ≤ℤ pos n
nat n = record { le = le→leb 0 n zero-le }

pub <→≤ : {a b : ℤ} → a <ℤ b → a ≤ℤ b
<→≤ {a} {b} h = record { le = go a b h.lt }
  where
    go : (a b : ℤ) → T (lt_z a b) → T (le_z a b)
    go (pos a) (pos b) t = le→leb a b (omega (arith, ltb→lt a b t))
    go (pos a) (negsuc b) t = t
    go (negsuc a) (pos b) t = tt
    go (negsuc a) (negsuc b) t = le→leb b a (omega (arith, ltb→lt b a t))

nn' : (a b : ℤ) → T (le_z (pos 0) a) → T (le_z (pos 0) b) → T (le_z (pos 0) (a +ℤ b)) × T (le_z (pos 0) (a *ℤ b))
nn' (pos a) (pos b) h k = (le→leb 0 (a + b) zero-le, le→leb 0 (a * b) zero-le)
nn' (pos a) (negsuc b) h k = absurd k
nn' (negsuc a) b h k = absurd h

pub n+n : {a b : ℤ} → pos 0 ≤ℤ a → pos 0 ≤ℤ b → pos 0 ≤ℤ (a +ℤ b)
n+n {a} {b} h k = record { le = (nn' a b h.le k.le).0 }

pub n*n : {a b : ℤ} → pos 0 ≤ℤ a → pos 0 ≤ℤ b → pos 0 ≤ℤ (a *ℤ b)
n*n {a} {b} h k = record { le = (nn' a b h.le k.le).1 }

pn' : (a b : ℤ) → T (lt_z (pos 0) a) → T (le_z (pos 0) b) → T (lt_z (pos 0) (a +ℤ b))
pn' (pos a) (pos b) h k = lt→ltb 0 (a + b) (omega (arith, ltb→lt 0 a h))
pn' (pos a) (negsuc b) h k = absurd k
pn' (negsuc a) b h k = absurd h

pp' : (a b : ℤ) → T (lt_z (pos 0) a) → T (lt_z (pos 0) b) → T (lt_z (pos 0) (a *ℤ b))
pp' (pos zero) b h k = absurd h
pp' (pos (suc a)) (pos zero) h k = absurd k
pp' (pos (suc a)) (pos (suc b)) h k = lt→ltb 0 (suc a * suc b) (omega arith)
pp' (pos (suc a)) (negsuc b) h k = absurd k
pp' (negsuc a) b h k = absurd h

pub p+n : {a b : ℤ} → pos 0 <ℤ a → pos 0 ≤ℤ b → pos 0 <ℤ (a +ℤ b)
p+n {a} {b} h k = record { lt = pn' a b h.lt k.le }

pub n+p : {a b : ℤ} → pos 0 ≤ℤ a → pos 0 <ℤ b → pos 0 <ℤ (a +ℤ b)
n+p {a} {b} h k = subst (λ (x : ℤ). pos 0 <ℤ x) (+ℤ_comm b a) (p+n k h)

pub p+p : {a b : ℤ} → pos 0 <ℤ a → pos 0 <ℤ b → pos 0 <ℤ (a +ℤ b)
p+p h k = p+n h (<→≤ k)

pub p*p : {a b : ℤ} → pos 0 <ℤ a → pos 0 <ℤ b → pos 0 <ℤ (a *ℤ b)
p*p {a} {b} h k = record { lt = pp' a b h.lt k.lt }

pub sq : (a : ℤ) → pos 0 ≤ℤ (a *ℤ a)
sq (pos n) = nat (n * n)
sq (negsuc n) = nat (suc n * suc n)

-- ---- with numbers that are 0 (z)
pub z+z : {a b : ℤ} → a ≡ pos 0 → b ≡ pos 0 → a +ℤ b ≡ pos 0
z+z e f = λ i. e i +ℤ f i

pub x*z : (a : ℤ) {b : ℤ} → b ≡ pos 0 → a *ℤ b ≡ pos 0
x*z a e = ap (λ (x : ℤ). a *ℤ x) e ∙ *ℤ-zero a

pub z→n : {a : ℤ} → a ≡ pos 0 → pos 0 ≤ℤ a
z→n e = subst (λ (x : ℤ). pos 0 ≤ℤ x) (sym e) (nat 0)

-- the sign of a sum of products, part by part: `search signs`
pub ruleset signs = (n+n, n*n, sq, nat, <→≤, p+p, p+n, n+p, p*p)

both_diff : (a b c : ℤ) → a ≤ℤ b → pos 0 <ℤ c → pos 0 <ℤ ((b -ℤ a) *ℤ c +ℤ c *ℤ c)
both_diff a b c h p = let d = ≤_diff h in search signs
