-- The least point of a list, as the queue's is taken.
use mathlib.Core.Path.{◌≡◌, refl}
use mathlib.Core.Logic.{⊎_elim}
use mathlib.Core.Bool.{Bool, true, false, cond}
use mathlib.Core.Option.{none, some}
use mathlib.Core.List.{List, [], ◌∷◌}
use mathlib.Core.List.Memᴰ.{head as here}
use mathlib.Core.List.Memᴰ.{tail as there}
use mathlib.Core.List.{Memᴰ as In}
use Prim.Native.Nat.{ℕ, ◌≤◌}
use native.Mathlib.Omega.{arith}
use Rattle.sweep.specs.Chart.{Chart}
use Rattle.sweep.specs.Queue.{least_from, least}
use Rattle.sweep.specs.Geometry.{Occurs}
use Rattle.sweep.proofs.Tests.{ask}
use Rattle.sweep.proofs.Ranked.{Keyed, less_true, less_false}

module _ (C : Chart) where
  open C use {Point, less}

  least_from_in : (p : Point) (l : List Point) → In (least_from C p l) (p ∷ l)
  unfolding least_from
  least_from_in p [] = here refl
  least_from_in p (q ∷ l) = fix (less q p) (least_from_in (cond (less q p) q p) l)
    where
      fix : {x : Point} (b : Bool) → In x (cond b q p ∷ l) → In x (p ∷ q ∷ l)
      fix true (here e) = there (here e)
      fix false (here e) = here e
      fix true (there m) = there (there m)
      fix false (there m) = there (there m)

  pub least_none : (l : List Point) → least C l ≡ none → (x : Point) → ¬ In x l
  unfolding least
  least_none [] e x m = elim m [ ]
  least_none (q ∷ l) e x m = let z : ◌≡◌ {A = ℕ} 0 1 = cc in omega arith

  module _ (K : Keyed C) where
    open K use {key}

    lesser : (p q : Point) → Occurs C p → Occurs C q → Occurs C (cond (less q p) q p) × (key (cond (less q p) q p) ≤ key p) × (key (cond (less q p) q p) ≤ key q)
    lesser p q a b =
        ⊎_elim
        (λ (e : less q p ≡ true). rw e (b, omega (arith, less_true C K q p b a e), omega arith))
        (λ (e : less q p ≡ false). rw e (a, omega arith, omega (arith, less_false C K q p b a e)))
        (ask (less q p))

    least_from_le : (p : Point) (l : List Point) → Occurs C p → ((x : Point) → In x l → Occurs C x) → {x : Point} → In x (p ∷ l) → key (least_from C p l) ≤ key x
    unfolding least_from
    least_from_le p [] op ol (here e) = rw e (omega arith)
    least_from_le p [] op ol (there m) = elim m [ ]
    least_from_le p (q ∷ l) op ol m =
        let c = lesser p q op (ol q (here refl)) in
        from c (λ y k. least_from_le (cond (less q p) q p) l c.0 (λ x h. ol x (there h)) k) m
      where
        from : {x : Point} → Occurs C (cond (less q p) q p) × (key (cond (less q p) q p) ≤ key p) × (key (cond (less q p) q p) ≤ key q)
            → ((y : Point) → In y (cond (less q p) q p ∷ l) → key (least_from C (cond (less q p) q p) l) ≤ key y) → In x (p ∷ q ∷ l) → key (least_from C (cond (less q p) q p) l) ≤ key x
        from c r (here e) = rw e (omega (arith, r _ (here refl), c))
        from c r (there (here e)) = rw e (omega (arith, r _ (here refl), c))
        from c r (there (there k)) = r _ (there k)

    pub least_some : (l : List Point) (p : Point) → ((x : Point) → In x l → Occurs C x) → least C l ≡ some p → In p l × ((x : Point) → In x l → key p ≤ key x)
    unfolding least
    least_some [] p ol e = let z : ◌≡◌ {A = ℕ} 0 1 = cc in absurd (omega arith)
    least_some (q ∷ l) p ol e = let d : least_from C q l ≡ p = cc in (rw d at (least_from_in q l), λ x m. rw d at (least_from_le q l (ol q (here refl)) (λ y k. ol y (there k)) m))
