-- Which piece of a line holds which point: between the joints the line is straight, and the joints cover every x once.
-- Assumes nothing.
use mathlib.Core.Path.{◌≡◌, refl, sym, ap, subst, ◌∙◌}
use mathlib.Core.Bool.{Bool, true, false}
use mathlib.Core.Logic.{◌⊎◌, inl, inr, ⊎_elim}
use Prim.Native.Nat.{ℕ, zero, suc, ◌+◌, ◌*◌, ◌-◌, ◌≤◌, ◌<◌}
use native.Mathlib.Nat.{mul-le-mul_left, mul-le-mul_right, mul-pos, mul-one}
use native.Mathlib.Omega.{arith}
use borrow.Author.Tests.{ltb-true, ltb-false}
use lib.Dec.{ltb}
use lib.IntN.{ℤ, pos, neg_ℤ, ◌+ℤ◌, ◌*ℤ◌}
use Rattle.integers.proofs.Linear.{linear, ≡_goal}
use Rattle.integers.proofs.Ring.{*ℤ_idr}
use Rattle.folded_line.specs.Folded.{folded}
use Rattle.folded_line.specs.Line.{count, joint}
use Rattle.folded_line.proofs.Folding.{rises, falls}
use Rattle.folded_line.proofs.Joints.{Lined, counts, joint_on, joint_upto, joint_last, joint_up}

data Parity (j : ℕ) : Type 0 where
  even : (k : ℕ) → j ≡ 2 * k → Parity j
  odd : (k : ℕ) → j ≡ suc (2 * k) → Parity j

parity : (j : ℕ) → Parity j
parity zero = even 0 refl
parity (suc j) = go (parity j)
  where
    go : Parity j → Parity (suc j)
    go (even k e) = odd k (omega arith)
    go (odd k e) = even (suc k) (omega arith)

module _ (m h s : ℕ) (d : Lined m h s) where
  -- piece j is straight: over its stretch the folded value is a slope times x and a height at 0, whatever the unit of x
  pub record Slope (j : ℕ) : Type 0 where
    pub slope : ℤ
    pub height : ℤ
    pub value : (x u : ℕ) → 0 < u → joint m h s j * u ≤ x → x ≤ joint m h s (suc j) * u → pos (folded (h * u) (m * x)) ≡ slope *ℤ pos x +ℤ height *ℤ pos u

  -- the multiples of H on both sides
  low : (j x u : ℕ) → j < count m h s → joint m h s j * u ≤ x → j * (h * u) ≤ m * x
  low j x u l k =
      let e = ap (λ (z : ℕ). z * u) (joint_on m h s d j l) in
      let g = mul-le-mul_left m k in
      omega arith

  high : (j x u : ℕ) → x ≤ joint m h s (suc j) * u → m * x ≤ suc j * (h * u)
  high j x u k =
      let e = mul-le-mul_right u (joint_upto m h s d (suc j)) in
      let g = mul-le-mul_left m k in
      omega arith

  pub slopes : (j : ℕ) → j < count m h s → Slope j
  slopes j l = go (parity j)
    where
      go : Parity j → Slope j
      go (even k e) =
          record {
            slope = pos m;
            height = neg_ℤ (pos (j * h));
            value = λ x u p a b.
                let r : m * x ≡ 2 * k * (h * u) + folded (h * u) (m * x) = rises (h * u) (mul-pos d.rate p) k (m * x) (subst (λ (i : ℕ). i * (h * u) ≤ m * x) e (low j x u l a)) (subst (λ (i : ℕ). m * x ≤ suc i * (h * u)) e (high j x u b)) in
                let q : j * (h * u) ≡ 2 * k * (h * u) = ap (λ (i : ℕ). i * (h * u)) e in
                ≡_goal (search linear depth 60 fits 20000) (omega arith);
          }
      go (odd k e) =
          record {
            slope = neg_ℤ (pos m);
            height = pos (suc j * h);
            value = λ x u p a b.
                let r : m * x + folded (h * u) (m * x) ≡ suc (suc (2 * k)) * (h * u) = falls (h * u) (mul-pos d.rate p) k (m * x) (subst (λ (i : ℕ). i * (h * u) ≤ m * x) e (low j x u l a)) (subst (λ (i : ℕ). m * x ≤ suc i * (h * u)) e (high j x u b)) in
                let q : suc j * (h * u) ≡ suc (suc (2 * k)) * (h * u) = ap (λ (i : ℕ). suc i * (h * u)) e in
                ≡_goal (search linear depth 60 fits 20000) (omega arith);
          }

  -- at whole x
  pub whole_value : (j x : ℕ) (t : Slope j) → joint m h s j ≤ x → x ≤ joint m h s (suc j) → pos (folded h (m * x)) ≡ t.slope *ℤ pos x +ℤ t.height
  whole_value j x t a b =
      ap (λ (z : ℕ). pos (folded z (m * x))) (sym (mul-one h))
      ∙ t.value x 1 (omega arith) (omega arith) (omega arith)
      ∙ ap (λ (z : ℤ). t.slope *ℤ pos x +ℤ z) (*ℤ_idr t.height)

  -- ---- which stretch an x lies in
  pub record Covers (x u j : ℕ) : Type 0 where
    pub piece : j < count m h s
    pub from : joint m h s j * u ≤ x
    pub upto : (x < joint m h s (suc j) * u) ⊎ ((x ≡ joint m h s (suc j) * u) × (suc j ≡ count m h s))

  some : 0 < count m h s
  some = go (count m h s) (counts m h s d.rate).enough
    where
      go : (n : ℕ) → m * s ≤ n * h → 0 < n
      go zero e = absurd (let g = mul-pos d.order d.speed in omega arith)
      go (suc n) e = omega arith

  begins : joint m h s 0 ≡ 0
  begins = go (joint m h s 0) (joint_on m h s d 0 some)
    where
      go : (z : ℕ) → m * z ≡ 0 * h → z ≡ 0
      go zero e = refl
      go (suc z) e = absurd (let g = mul-pos {m = m} {n = suc z} d.order (omega arith) in omega arith)

  found : (x u k : ℕ) → k ≤ count m h s → x < joint m h s k * u → (j : ℕ) × Covers x u j
  found x u zero l a = absurd (let e = ap (λ (z : ℕ). z * u) begins in omega arith)
  found x u (suc k) l a = go (ltb x (joint m h s k * u)) refl (found x u k (omega arith))
    where
      go : (t : Bool) → ltb x (joint m h s k * u) ≡ t → (x < joint m h s k * u → (j : ℕ) × Covers x u j) → (j : ℕ) × Covers x u j
      go true e f = f (ltb-true _ _ e)
      go false e f = (k, record { piece = l; from = ltb-false _ _ e; upto = inl a })

  pub covers : (x u : ℕ) → x ≤ s * u → (j : ℕ) × Covers x u j
  covers x u l = go (ltb x (joint m h s (count m h s - 1) * u)) refl (ltb x (s * u)) refl
    where
      k : ℕ
      k = count m h s - 1

      last : suc (count m h s - 1) ≡ count m h s
      last = omega (arith, some)

      end : joint m h s (suc (count m h s - 1)) * u ≡ s * u
      end = ap (λ (z : ℕ). joint m h s z * u) last ∙ ap (λ (z : ℕ). z * u) (joint_last m h s d)

      go : (t : Bool) → ltb x (joint m h s (count m h s - 1) * u) ≡ t → (r : Bool) → ltb x (s * u) ≡ r → (j : ℕ) × Covers x u j
      go true e r f = found x u (count m h s - 1) (omega arith) (ltb-true _ _ e)
      go false e true f =
          let g : x < s * u = ltb-true _ _ f in
          (count m h s - 1, record { piece = omega (arith, last); from = ltb-false _ _ e; upto = inl (omega (arith, end)) })
      go false e false f =
          let g : s * u ≤ x = ltb-false _ _ f in
          (count m h s - 1, record { piece = omega (arith, last); from = ltb-false _ _ e; upto = inr (omega (arith, end), last) })

  -- two stretches have no x in common
  apart : (x u i k : ℕ) → Covers x u i → Covers x u (suc i + k) → ⊥
  apart x u i k a b = ⊎_elim (λ (l : x < joint m h s (suc i) * u). let g = b.from in omega (arith, up)) (λ (e : (x ≡ joint m h s (suc i) * u) × (suc i ≡ count m h s)). let f = b.piece in let q = e.1 in omega arith) a.upto
    where
      up : joint m h s (suc i) * u ≤ joint m h s (suc i + k) * u
      up = mul-le-mul_right u (joint_up m h s d (suc i) k b.piece)

  pub one_covers : (x u i j : ℕ) → Covers x u i → Covers x u j → i ≡ j
  one_covers x u i j a b = go (ltb i j) refl (ltb j i) refl
    where
      go : (t : Bool) → ltb i j ≡ t → (r : Bool) → ltb j i ≡ r → i ≡ j
      go true e r f = let g = ltb-true i j e in absurd (apart x u i (j - suc i) a (subst (Covers x u) {x = j} {y = suc i + (j - suc i)} (omega arith) b))
      go false e true f = let g = ltb-true j i f in absurd (apart x u j (i - suc j) b (subst (Covers x u) {x = i} {y = suc j + (i - suc j)} (omega arith) a))
      go false e false f = let g = ltb-false i j e in let k = ltb-false j i f in omega arith
