-- An entry by its greater and lesser number, as the definitions have it, says the same as by its two bytes as they stand.
-- Assumes nothing.
use mathlib.Core.Path.{◌≡◌, refl, sym, ap, ◌∙◌, subst}
use mathlib.Core.Bool.{Bool, true, false, cond, ◌&&◌, ◌||◌}
use mathlib.Core.List.{List}
use mathlib.Core.Logic.{◌⊎◌, inl, inr, ⊎_elim}
use Prim.Native.Nat.{ℕ, zero, suc, ◌≤◌, ◌<◌}
use native.Mathlib.Omega.{arith}
use borrow.Author.Tests.{eq-eqb, eqb-true, eqb-false}
use lib.Dec.{eqb, ltb}
use lib.IntN.{ℤ}
use Rattle.line_segment.specs.declared.LineSegment.{LineSegment}
use Rattle.line_segment.specs.Demand.{Meet}
use Rattle.supplied.specs.Entries.{greater, lesser, one, other, top, low, named}
use Rattle.supplied.specs.Demand.{Meets, Names, Named}
use Rattle.supplied.proofs.Entries.{in_order}

-- two numbers one way round, or the other
pub sides : (x y : ℕ) → ((greater x y ≡ x) × (lesser x y ≡ y)) ⊎ ((greater x y ≡ y) × (lesser x y ≡ x))
unfolding greater lesser
sides x y = go (ltb x y)
  where
    go : (t : Bool) → ((cond t y x ≡ x) × (cond t x y ≡ y)) ⊎ ((cond t y x ≡ y) × (cond t x y ≡ x))
    go true = inr (refl, refl)
    go false = inl (refl, refl)

pub turned : (a b : LineSegment) → Meet a b → Meet b a
turned a b m = (m.0, record { positive = m.1.positive; first = m.1.second; second = m.1.first })

module _ (list : List ℤ) (n : ℕ) (bytes : List ℕ) where
  -- ---- meeting
  pub meet_given : (i : ℕ) → Meets list n bytes (top bytes i) (low bytes i) → Meets list n bytes (one bytes i) (other bytes i)
  meet_given i m =
      ⊎_elim
      (λ w. subst (λ (k : ℕ). Meets list n bytes (one bytes i) k) w.1 (subst (λ (k : ℕ). Meets list n bytes k (low bytes i)) w.0 m))
      (λ w. turned _ _ (subst (λ (k : ℕ). Meets list n bytes (other bytes i) k) w.1 (subst (λ (k : ℕ). Meets list n bytes k (low bytes i)) w.0 m)))
      (sides (one bytes i) (other bytes i))

  pub meet_ordered : (i : ℕ) → Meets list n bytes (one bytes i) (other bytes i) → Meets list n bytes (top bytes i) (low bytes i)
  meet_ordered i m =
      ⊎_elim
      (λ w. subst (λ (k : ℕ). Meets list n bytes (top bytes i) k) (sym w.1) (subst (λ (k : ℕ). Meets list n bytes k (other bytes i)) (sym w.0) m))
      (λ w. subst (λ (k : ℕ). Meets list n bytes (top bytes i) k) (sym w.1) (subst (λ (k : ℕ). Meets list n bytes k (one bytes i)) (sym w.0) (turned _ _ m)))
      (sides (one bytes i) (other bytes i))

  -- ---- naming
  pub names_given : (i a b : ℕ) → top bytes i ≡ a → low bytes i ≡ b → Names list n bytes i a b
  names_given i a b e f =
      ⊎_elim
      (λ w. inl (sym w.0 ∙ e, sym w.1 ∙ f))
      (λ w. inr (sym w.1 ∙ f, sym w.0 ∙ e))
      (sides (one bytes i) (other bytes i))

  pub names_ordered : (i a b : ℕ) → b < a → Names list n bytes i a b → (top bytes i ≡ a) × (low bytes i ≡ b)
  names_ordered i a b h m = ⊎_elim (λ w. first w.0 w.1) (λ w. second w.0 w.1) m
    where
      o : low bytes i ≤ top bytes i
      o = in_order (one bytes i) (other bytes i)

      first : one bytes i ≡ a → other bytes i ≡ b → (top bytes i ≡ a) × (low bytes i ≡ b)
      first e f = ⊎_elim (λ w. (w.0 ∙ e, w.1 ∙ f)) (λ w. let g = w.0 in let l = w.1 in absurd (omega (arith, o))) (sides (one bytes i) (other bytes i))

      second : one bytes i ≡ b → other bytes i ≡ a → (top bytes i ≡ a) × (low bytes i ≡ b)
      second e f = ⊎_elim (λ w. let g = w.0 in let l = w.1 in absurd (omega (arith, o))) (λ w. (w.0 ∙ f, w.1 ∙ e)) (sides (one bytes i) (other bytes i))

  names_turned : (i a b : ℕ) → Names list n bytes i a b → Names list n bytes i b a
  names_turned i a b m = ⊎_elim (λ w. inr w) (λ w. inl w) m

  pub named_turned : (i a b : ℕ) → Named list n bytes i a b → Named list n bytes i b a
  named_turned i a b m = (m.0, m.1, names_turned m.0 a b m.2)

  -- of the entry's own pair
  pub named_given : (m i : ℕ) → Named list n bytes m (top bytes i) (low bytes i) → Named list n bytes m (one bytes i) (other bytes i)
  named_given m i d =
      ⊎_elim
      (λ w. subst (λ (k : ℕ). Named list n bytes m (one bytes i) k) w.1 (subst (λ (k : ℕ). Named list n bytes m k (low bytes i)) w.0 d))
      (λ w. named_turned m _ _ (subst (λ (k : ℕ). Named list n bytes m (other bytes i) k) w.1 (subst (λ (k : ℕ). Named list n bytes m k (low bytes i)) w.0 d)))
      (sides (one bytes i) (other bytes i))

  pub named_ordered : (m i : ℕ) → Named list n bytes m (one bytes i) (other bytes i) → Named list n bytes m (top bytes i) (low bytes i)
  named_ordered m i d =
      ⊎_elim
      (λ w. subst (λ (k : ℕ). Named list n bytes m (top bytes i) k) (sym w.1) (subst (λ (k : ℕ). Named list n bytes m k (other bytes i)) (sym w.0) d))
      (λ w. subst (λ (k : ℕ). Named list n bytes m (top bytes i) k) (sym w.1) (subst (λ (k : ℕ). Named list n bytes m k (one bytes i)) (sym w.0) (named_turned m _ _ d)))
      (sides (one bytes i) (other bytes i))

  -- ---- the test of names says whether one does
  later : {i a b : ℕ} → Named list n bytes i a b → Named list n bytes (suc i) a b
  later m = let h = m.1 in (m.0, omega arith, m.2)

  pub named_yes : (i a b : ℕ) → named bytes i a b ≡ true → Named list n bytes i a b
  unfolding named
  named_yes zero a b e = let z : ◌≡◌ {A = Bool} false true = e in absurd (clash z)
    where
      clash : ◌≡◌ {A = Bool} false true → ⊥
      clash q = let w : ◌≡◌ {A = ℕ} 0 1 = ap (λ (t : Bool). cond t 1 0) q in omega arith
  named_yes (suc i) a b e = go (named bytes i a b) refl (eqb (top bytes i) a) refl (eqb (low bytes i) b) refl (named_yes i a b) e
    where
      go : (r : Bool) → named bytes i a b ≡ r → (s : Bool) → eqb (top bytes i) a ≡ s → (t : Bool) → eqb (low bytes i) b ≡ t → (named bytes i a b ≡ true → Named list n bytes i a b) → (r || (s && t)) ≡ true → Named list n bytes (suc i) a b
      go true p s q t f k h = later (k p)
      go false p true q true f k h = (i, omega arith, names_given i a b (eqb-true _ _ q) (eqb-true _ _ f))
      go false p true q false f k h = let w : ◌≡◌ {A = ℕ} 0 1 = ap (λ (t : Bool). cond t 1 0) h in absurd (omega arith)
      go false p false q t f k h = let w : ◌≡◌ {A = ℕ} 0 1 = ap (λ (t : Bool). cond t 1 0) h in absurd (omega arith)

  pub named_has : (i a b : ℕ) → b < a → Named list n bytes i a b → named bytes i a b ≡ true
  unfolding named
  named_has zero a b h m = let k = m.1 in absurd (omega arith)
  named_has (suc i) a b h m = go (eqb m.0 i) refl (named_has i a b h)
    where
      or_right : (t : Bool) → (t || true) ≡ true
      or_right true = refl
      or_right false = refl

      go : (t : Bool) → eqb m.0 i ≡ t → (Named list n bytes i a b → named bytes i a b ≡ true) → (named bytes i a b || (eqb (top bytes i) a && eqb (low bytes i) b)) ≡ true
      go true e r =
          let q : m.0 ≡ i = eqb-true _ _ e in
          let w = names_ordered i a b h (subst (λ (k : ℕ). Names list n bytes k a b) q m.2) in
          rw (eq-eqb (top bytes i) a w.0, eq-eqb (low bytes i) b w.1) (or_right (named bytes i a b))
      go false e r =
          let d : m.0 ≡ i → ⊥ = eqb-false _ _ e in
          let k = m.1 in
          let l : m.0 < i = omega arith in
          rw (r (m.0, l, m.2))
