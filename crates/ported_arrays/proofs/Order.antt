-- An order of points that fit, read as a total one; and a list kept in it by putting each in its place.
use mathlib.Core.Path.{◌≡◌, refl, subst}
use mathlib.Core.Logic.{⊎_elim}
use mathlib.Core.Bool.{Bool, true, false}
use mathlib.Core.List.{List, [], ◌∷◌}
use mathlib.Core.List.Memᴰ.{head as here}
use mathlib.Core.List.Memᴰ.{tail as there}
use mathlib.Core.List.{Memᴰ as In}
use Rattle.sweep.specs.Lists.{place, Pairwise}
use Rattle.sweep.specs.Chart.{Chart}
use Rattle.sweep.proofs.Tests.{ask, clash}
use Rattle.sweep.proofs.Sorting.{place_out}
use Rattle.ported_arrays.specs.Agreement.{Ordered}

-- things in the order of their points
module _ (C : Chart) {A : Type 0} (point : A → C.Point) where
  abbrev pub Up : List A → Type 0
  Up = Pairwise (λ x y. C.less (point y) (point x) ≡ false)

  abbrev pub nearer : A → A → Bool
  nearer x y = C.less (point x) (point y)

module _ (C : Chart) (O : Ordered C) where
  open C use {Point, less}
  open O use {Fit}

  pub asym : (p q : Point) → Fit p → Fit q → less p q ≡ true → less q p ≡ false
  asym p q a b e =
      ⊎_elim (λ (h : less q p ≡ true). clash (O.less_trans p q p a b a e h) (O.less_irr p a)) (λ (h : less q p ≡ false). h) (ask (less q p))

  -- not after, and not after
  pub not_after : (p q r : Point) → Fit p → Fit q → Fit r → less q p ≡ false → less r q ≡ false → less r p ≡ false
  not_after p q r a b c e f =
      ⊎_elim
      (λ (h : less r p ≡ true).
      ⊎_elim
      (λ (g : less p q ≡ true). clash (O.less_trans r p q c a b h g) f)
      (λ (g : less p q ≡ false). clash (subst (λ (z : Point). less r z ≡ true) (O.less_same p q a b g e) h) f)
      (ask (less p q)))
      (λ (h : less r p ≡ false). h)
      (ask (less r p))

  -- one more put in its place
  module _ {A : Type 0} (point : A → Point) where
    pub place_up : (x : A) (l : List A) → Fit (point x) → ((y : A) → In y l → Fit (point y)) → Up C point l → Up C point (place (nearer C point) x l)
    unfolding place
    place_up x [] a h u = (λ y m. elim m [ ], tt)
    place_up x (y ∷ l) a h u =
        ⊎_elim
        (λ (e : nearer C point x y ≡ true). rw (e, place) (λ z m. ahead z e m, u))
        (λ (e : nearer C point x y ≡ false). rw (e, place) (λ z m. behind z e (place_out (nearer C point) x l m), place_up x l a (λ z m. h z (there m)) u.1))
        (ask (nearer C point x y))
      where
        ahead : (z : A) → nearer C point x y ≡ true → In z (y ∷ l) → less (point z) (point x) ≡ false
        ahead z e (here f) = rw f (asym (point x) (point y) a (h y (here refl)) e)
        ahead z e (there m) =
            not_after (point x) (point y) (point z) a (h y (here refl)) (h z (there m)) (asym (point x) (point y) a (h y (here refl)) e) (u.0 z m)

        behind : (z : A) → nearer C point x y ≡ false → In z (x ∷ l) → less (point z) (point y) ≡ false
        behind z e (here f) = rw f e
        behind z e (there m) = u.0 z m

-- a relation between every two that holds for the new one with each
pub place_pairwise : {A : Type 0} (before : A → A → Bool) (R : A → A → Type 0) (x : A) (l : List A)
    → ((y : A) → In y l → R x y × R y x) → Pairwise R l → Pairwise R (place before x l)
unfolding place
place_pairwise before R x [] h u = (λ y m. elim m [ ], tt)
place_pairwise before R x (y ∷ l) h u =
    ⊎_elim
    (λ (e : before x y ≡ true). rw (e, place) (λ z m. (h z m).0, u))
    (λ (e : before x y ≡ false).
    rw (e, place) (λ z m. behind z (place_out before x l m), place_pairwise before R x l (λ z m. h z (there m)) u.1))
    (ask (before x y))
  where
    behind : (z : _) → In z (x ∷ l) → R y z
    behind z (here f) = rw f (h y (here refl)).1
    behind z (there m) = u.0 z m
