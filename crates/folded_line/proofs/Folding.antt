-- The folded value by the stretch in which a number lies: it rises from an even multiple of H and falls towards the next one.
-- Assumes nothing.
use mathlib.Core.Path.{◌≡◌, refl, sym, ap, ◌∙◌}
use mathlib.Core.Bool.{Bool, true, false}
use Prim.Native.Nat.{ℕ, suc, ◌+◌, ◌*◌, ◌-◌, ◌/◌, ◌%◌, ◌≤◌, ◌<◌}
use native.Mathlib.Nat.{mod-lt, div-add-mod', mul-le-mul_right}
use native.Mathlib.Omega.{arith}
use borrow.Author.Tests.{lt-ltb, le-ltb, ltb-true, ltb-false}
use lib.Arith.{digits_mod}
use lib.Dec.{ltb}
use Rattle.folded_line.specs.Folded.{folded}
use Rattle.folded_line.specs.Demand.{gap, Nearest, FoldsToNearest}

module _ (h : ℕ) (p : 0 < h) where
  -- r beyond an even multiple, no more than H
  near : (k r : ℕ) → r ≤ h → folded h (k * (2 * h) + r) ≡ r
  unfolding folded
  near k r l = rw (digits_mod k {m = 2 * h} {r = r} (omega arith), le-ltb h r l)

  -- more than H
  far : (k r : ℕ) → h < r → r < 2 * h → folded h (k * (2 * h) + r) ≡ 2 * h - r
  unfolding folded
  far k r l u = rw (digits_mod k {m = 2 * h} {r = r} u, lt-ltb h r l)

  data Rest (v : ℕ) : Type 0 where
    rest_near : (k r : ℕ) → v ≡ k * (2 * h) + r → r ≤ h → folded h v ≡ r → Rest v
    rest_far : (k r : ℕ) → v ≡ k * (2 * h) + r → h < r → r < 2 * h → folded h v ≡ 2 * h - r → Rest v

  rest : (v : ℕ) → Rest v
  rest v = go (ltb h (v % (2 * h))) refl
    where
      whole : v ≡ v / (2 * h) * (2 * h) + v % (2 * h)
      whole = sym (div-add-mod' v (2 * h))

      go : (t : Bool) → ltb h (v % (2 * h)) ≡ t → Rest v
      go true e = rest_far (v / (2 * h)) (v % (2 * h)) whole (ltb-true _ _ e) (mod-lt v (omega arith)) (ap (folded h) whole ∙ far _ _ (ltb-true _ _ e) (mod-lt v (omega arith)))
      go false e = rest_near (v / (2 * h)) (v % (2 * h)) whole (ltb-false _ _ e) (ap (folded h) whole ∙ near _ _ (ltb-false _ _ e))

  pub folded_below : (v : ℕ) → folded h v ≤ h
  folded_below v = go (rest v)
    where
      go : Rest v → folded h v ≤ h
      go (rest_near k r e l f) = rw f l
      go (rest_far k r e l u f) = rw f (omega arith)

  -- from an even multiple up
  pub rises : (k v : ℕ) → 2 * k * h ≤ v → v ≤ suc (2 * k) * h → v ≡ 2 * k * h + folded h v
  rises k v l u =
      let r = v - 2 * k * h in
      let e : v ≡ k * (2 * h) + r = omega arith in
      let f : folded h v ≡ r = ap (folded h) e ∙ near k r (omega arith) in
      omega arith

  -- and down to the next
  pub falls : (k v : ℕ) → suc (2 * k) * h ≤ v → v ≤ suc (suc (2 * k)) * h → v + folded h v ≡ suc (suc (2 * k)) * h
  falls k v l u = go (v - k * (2 * h)) (omega arith) (ltb (v - k * (2 * h)) (2 * h)) refl (ltb h (v - k * (2 * h))) refl
    where
      go : (r : ℕ) → v ≡ k * (2 * h) + r → (t : Bool) → ltb r (2 * h) ≡ t → (z : Bool) → ltb h r ≡ z → v + folded h v ≡ suc (suc (2 * k)) * h
      go r e true a true b =
          let g : r < 2 * h = ltb-true r (2 * h) a in
          let f : folded h v ≡ 2 * h - r = ap (folded h) e ∙ far k r (ltb-true h r b) g in
          omega arith
      go r e true a false b =
          let g : r ≤ h = ltb-false h r b in
          let f : folded h v ≡ r = ap (folded h) e ∙ near k r g in
          omega arith
      go r e false a z b =
          let g : 2 * h ≤ r = ltb-false r (2 * h) a in
          let d : v ≡ suc k * (2 * h) + 0 = omega arith in
          let f : folded h v ≡ 0 = ap (folded h) d ∙ near (suc k) 0 (omega arith) in
          omega arith

  -- the multiples up to q, and those beyond
  sided : (q k : ℕ) (P : Type 0) → (k * (2 * h) ≤ q * (2 * h) → P) → (suc q * (2 * h) ≤ k * (2 * h) → P) → P
  sided q k P low high = go (ltb q k) refl
    where
      go : (t : Bool) → ltb q k ≡ t → P
      go true b = high (mul-le-mul_right (2 * h) (ltb-true q k b))
      go false b = low (mul-le-mul_right (2 * h) (ltb-false q k b))

  nearest_of : (v : ℕ) → Nearest h v (folded h v)
  nearest_of v = go (rest v)
    where
      go : Rest v → Nearest h v (folded h v)
      go (rest_near q r e l f) =
          record {
            multiple = q;
            reached = omega arith;
            nearest = λ k. sided q k (folded h v ≤ gap v (k * (2 * h))) (λ g. omega arith) (λ g. omega arith);
          }
      go (rest_far q r e l u f) =
          record {
            multiple = suc q;
            reached = omega arith;
            nearest = λ k. sided q k (folded h v ≤ gap v (k * (2 * h))) (λ g. omega arith) (λ g. omega arith);
          }

pub folds_to_nearest : FoldsToNearest
folds_to_nearest h v p = nearest_of h p v
