-- The joints of a line: how many pieces there are, and where each begins and ends.
-- Assumes nothing.
use mathlib.Core.Path.{◌≡◌, refl, sym, ap, ◌∙◌, subst}
use mathlib.Core.Bool.{Bool, true, false}
use mathlib.Core.Logic.{◌⊎◌, ⊎_elim}
use Prim.Native.Nat.{ℕ, zero, suc, ◌+◌, ◌*◌, ◌-◌, ◌/◌, ◌≤◌, ◌<◌}
use native.Mathlib.Nat.{div-mul-le_self, lt-div-mul-add, mul-div_cancel, mul-le-mul_right, mul-le-mul_left, mul-pos, lt_of_mul-lt-mul_left, le-div_iff_mul-le, zero-div, add-zero}
use native.Mathlib.Omega.{arith}
use borrow.Author.Tests.{ltb-true, ltb-false}
use lib.Dec.{ltb}
use Rattle.folded_line.specs.Line.{count, joint}
use Rattle.folded_line.specs.Demand.{Pieces}

-- what is known of the three numbers of a line
pub record Lined (m h s : ℕ) : Type 0 where
  pub order : 0 < m
  pub rate : 0 < h
  pub speed : 0 < s
  -- H is w times m, or the line does not fold
  pub whole : ((w : ℕ) × (h ≡ w * m)) ⊎ (m * s ≤ h)

-- ---- the count
module _ (m h s : ℕ) (p : 0 < h) where
  pub counts : Pieces m h s (count m h s)
  unfolding count
  counts =
      let a = m * s + (h - 1) in
      let q = a / h in
      let low : q * h ≤ a = div-mul-le_self a h in
      let high : a < q * h + h = lt-div-mul-add {a = a} {b = h} p in
      record {
        enough = omega arith;
        least = λ k l. let g : suc k * h ≤ q * h = mul-le-mul_right h l in omega arith;
      }

-- two counts are one
pub one_count : (m h s n k : ℕ) → Pieces m h s n → Pieces m h s k → n ≡ k
one_count m h s n k a b = go (ltb n k) refl (ltb k n) refl
  where
    no : (i j : ℕ) → Pieces m h s i → Pieces m h s j → i < j → ⊥
    no i j x y l = let g = y.least i l in let e = x.enough in omega arith

    go : (t : Bool) → ltb n k ≡ t → (u : Bool) → ltb k n ≡ u → n ≡ k
    go true e u f = absurd (no n k a b (ltb-true n k e))
    go false e true f = absurd (no k n b a (ltb-true k n f))
    go false e false f = let x : k ≤ n = ltb-false n k e in let y : n ≤ k = ltb-false k n f in omega arith

-- ---- where the joints lie
module _ (m h s : ℕ) where
  -- at jH/m, or at S where that comes first
  pub data Lies (j : ℕ) : Type 0 where
    within : joint m h s j ≡ j * h / m → j * h / m ≤ s → Lies j
    beyond : joint m h s j ≡ s → s < j * h / m → Lies j

  pub lies : (j : ℕ) → Lies j
  unfolding joint
  lies j = go (ltb s (j * h / m)) refl
    where
      go : (t : Bool) → ltb s (j * h / m) ≡ t → Lies j
      go true e = beyond (rw e) (ltb-true _ _ e)
      go false e = within (rw e) (ltb-false _ _ e)

  pub joint_most : (j : ℕ) → joint m h s j ≤ s
  joint_most j = go (lies j)
    where
      go : Lies j → joint m h s j ≤ s
      go (within e l) = rw e l
      go (beyond e l) = rw e (omega arith)

module _ (m h s : ℕ) (d : Lined m h s) where
  -- a line that does not fold has one piece
  small_one : m * s ≤ h → count m h s ≡ 1
  small_one k =
      one_count m h s (count m h s) 1 (counts m h s d.rate)
      (record { enough = omega arith; least = λ i l. let e : i ≡ 0 = omega arith in let g = mul-pos d.order d.speed in rw e (omega arith) })

  -- the last joint is S
  pub joint_last : joint m h s (count m h s) ≡ s
  joint_last = go (lies m h s (count m h s))
    where
      far : s ≤ count m h s * h / m
      far = (le-div_iff_mul-le d.order).1 (let g = (counts m h s d.rate).enough in omega arith)

      go : Lies m h s (count m h s) → joint m h s (count m h s) ≡ s
      go (within e l) = e ∙ omega (arith, far)
      go (beyond e l) = e

  pub joint_upto : (j : ℕ) → m * joint m h s j ≤ j * h
  joint_upto j = go (lies m h s j)
    where
      low : j * h / m * m ≤ j * h
      low = div-mul-le_self (j * h) m

      go : Lies m h s j → m * joint m h s j ≤ j * h
      go (within e l) = rw e (omega (arith, low))
      go (beyond e l) = rw e (let g = mul-le-mul_right m l in omega (arith, low))

  -- with H w times m
  module _ (w : ℕ) (e : h ≡ w * m) where
    quotient : (j : ℕ) → j * h / m ≡ j * w
    quotient j = ap (λ (z : ℕ). z / m) (ap (λ (z : ℕ). j * z) e ∙ omega arith) ∙ mul-div_cancel (j * w) d.order

    whole_on : (j : ℕ) → j < count m h s → m * joint m h s j ≡ j * h
    whole_on j l = go (lies m h s j)
      where
        k : j * h ≡ j * w * m
        k = ap (λ (z : ℕ). j * z) e ∙ omega arith

        go : Lies m h s j → m * joint m h s j ≡ j * h
        go (within f b) = rw (f, quotient j) (sym (k ∙ omega arith))
        go (beyond f b) =
            let u : m * suc s ≤ m * (j * w) = mul-le-mul_left m (subst (λ (z : ℕ). s < z) (quotient j) b) in
            let below : j * h < m * s = (counts m h s d.rate).least j l in
            absurd (omega (arith, k))

    whole_less : (j : ℕ) → j < count m h s → joint m h s j < joint m h s (suc j)
    whole_less j l = go (lies m h s (suc j))
      where
        on : m * joint m h s j ≡ j * h
        on = whole_on j l

        go : Lies m h s (suc j) → joint m h s j < joint m h s (suc j)
        go (within f b) =
            let q : joint m h s (suc j) ≡ suc j * w = f ∙ quotient (suc j) in
            let k : suc j * h ≡ m * (suc j * w) = ap (λ (z : ℕ). suc j * z) e ∙ omega arith in
            let r = d.rate in
            rw q (lt_of_mul-lt-mul_left m {m = joint m h s j} {n = suc j * w} (omega (arith, on)))
        go (beyond f b) =
            let below : j * h < m * s = (counts m h s d.rate).least j l in
            rw f (lt_of_mul-lt-mul_left m {m = joint m h s j} {n = s} (omega (arith, on)))

  module _ (k : m * s ≤ h) (j : ℕ) (l : j < count m h s) where
    first : j ≡ 0
    first = omega (arith, small_one k)

    at_zero : joint m h s 0 ≡ 0
    at_zero = go (lies m h s 0)
      where
        z : 0 * h / m ≡ 0
        z = ap (λ (a : ℕ). a / m) (omega arith) ∙ zero-div m

        go : Lies m h s 0 → joint m h s 0 ≡ 0
        go (within e b) = e ∙ z
        go (beyond e b) = absurd (omega (arith, z))

    small_on : m * joint m h s j ≡ j * h
    small_on = rw (first, at_zero) (omega arith)

    small_less : joint m h s j < joint m h s (suc j)
    small_less = rw (first, at_zero) (subst (λ (i : ℕ). 0 < joint m h s i) (small_one k) (rw joint_last d.speed))

  -- before the last joint
  pub joint_on : (j : ℕ) → j < count m h s → m * joint m h s j ≡ j * h
  joint_on j l = ⊎_elim (λ (p : (w : ℕ) × (h ≡ w * m)). whole_on p.0 p.1 j l) (λ (k : m * s ≤ h). small_on k j l) d.whole

  pub joint_less : (j : ℕ) → j < count m h s → joint m h s j < joint m h s (suc j)
  joint_less j l = ⊎_elim (λ (p : (w : ℕ) × (h ≡ w * m)). whole_less p.0 p.1 j l) (λ (k : m * s ≤ h). small_less k j l) d.whole

  -- from left to right
  pub joint_up : (i k : ℕ) → i + k < count m h s → joint m h s i ≤ joint m h s (i + k)
  joint_up i zero l = rw add-zero (omega arith)
  joint_up i (suc k) l = let f = joint_up i k (omega arith) in let g = joint_less (i + k) (omega arith) in let e : i + suc k ≡ suc (i + k) = omega arith in rw e (omega arith)
