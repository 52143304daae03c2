-- In a list in the order of points, none before p: those at p are the front, and those beyond it the rest.
use mathlib.Core.Path.{◌≡◌, refl, sym, ap, subst}
use mathlib.Core.Logic.{⊎_elim}
use mathlib.Core.Bool.{Bool, true, false, not, ◌&&◌}
use mathlib.Core.List.{List, [], ◌∷◌}
use mathlib.Core.List.Memᴰ.{head as here}
use mathlib.Core.List.Memᴰ.{tail as there}
use mathlib.Core.List.{Memᴰ as In}
use Prim.Native.Nat.{ℕ}
use Rattle.sweep.specs.Lists.{keep, Pairwise}
use Rattle.sweep.specs.Chart.{Chart, same}
use Rattle.sweep.proofs.Tests.{ask, clash, and_both}
use Rattle.sweep.proofs.Lists.{keep_none}
use Rattle.ported_arrays.specs.Insertion.{front, rest}
use Rattle.ported_arrays.specs.Agreement.{Ordered}
use Rattle.ported_arrays.proofs.Order.{Up}

-- where a test fails from some member on, and holds before it
pub front_keep : (f : ℕ → Bool) (l : List ℕ) → Pairwise (λ x y. f x ≡ false → f y ≡ false) l → front f l ≡ keep f l
unfolding front keep
front_keep f [] h = refl
front_keep f (x ∷ l) h =
    ⊎_elim
    (λ (e : f x ≡ true). rw e (ap (λ (z : List ℕ). x ∷ z) (front_keep f l h.1)))
    (λ (e : f x ≡ false). rw e (sym (keep_none f l (λ y m. h.0 y m e))))
    (ask (f x))

keep_all : (f : ℕ → Bool) (l : List ℕ) → ((x : ℕ) → In x l → f x ≡ true) → keep f l ≡ l
unfolding keep
keep_all f [] h = refl
keep_all f (x ∷ l) h = rw (h x (here refl)) (ap (λ (z : List ℕ). x ∷ z) (keep_all f l (λ y m. h y (there m))))

pub rest_keep : (f : ℕ → Bool) (l : List ℕ) → Pairwise (λ x y. f x ≡ false → f y ≡ false) l → rest f l ≡ keep (λ x. not (f x)) l
unfolding rest keep
rest_keep f [] h = refl
rest_keep f (x ∷ l) h =
    ⊎_elim
    (λ (e : f x ≡ true). rw e (rest_keep f l h.1))
    (λ (e : f x ≡ false). rw e (ap (λ (z : List ℕ). x ∷ z) (sym (keep_all (λ y. not (f y)) l (λ y m. rw (h.0 y m e))))))
    (ask (f x))

module _ (C : Chart) (O : Ordered C) (p : C.Point) (at_p : O.Fit p) where
  open C use {Point, less}
  open O use {Fit}

  pub same_no : (a : Point) → less a p ≡ false → same C a p ≡ false → less p a ≡ true
  unfolding same
  same_no a e h = ⊎_elim (λ (d : less p a ≡ true). d) (λ (d : less p a ≡ false). clash (rw (e, d)) h) (ask (less p a))

  pub same_yes : (a : Point) → Fit a → same C a p ≡ true → a ≡ p
  unfolding same
  same_yes a f e =
      let b = and_both (not (less a p)) (not (less p a)) e in
      O.less_same a p f at_p (turn (less a p) b.0) (turn (less p a) b.1)
    where
      turn : (b : Bool) → not b ≡ true → b ≡ false
      turn true e = sym e
      turn false e = refl

  pub beyond_not : (a : Point) → less p a ≡ true → same C a p ≡ false
  unfolding same
  beyond_not a e = rw e (and_false (not (less a p)))
    where
      and_false : (b : Bool) → (b && false) ≡ false
      and_false true = refl
      and_false false = refl

  -- from the first beyond p on, all are
  pub stops : (point : ℕ → Point) (l : List ℕ) → ((x : ℕ) → In x l → Fit (point x) × (less (point x) p ≡ false)) → Up C point l
      → Pairwise (λ x y. same C (point x) p ≡ false → same C (point y) p ≡ false) l
  stops point [] h u = tt
  stops point (x ∷ l) h u = (λ y m e. later y m e, stops point l (λ y m. h y (there m)) u.1)
    where
      later : (y : ℕ) → In y l → same C (point x) p ≡ false → same C (point y) p ≡ false
      later y m e =
          ⊎_elim
          (λ (s : same C (point y) p ≡ true).
          clash
          (subst (λ (z : Point). less z (point x) ≡ true) (sym (same_yes (point y) (h y (there m)).0 s)) (same_no (point x) (h x (here refl)).1 e))
          (u.0 y m))
          (λ (s : same C (point y) p ≡ false). s)
          (ask (same C (point y) p))
