-- A number for each of finitely many points that keeps their order: how many of them come before it.
use mathlib.Core.Path.{◌≡◌, refl, sym, ap}
use mathlib.Core.Logic.{⊎_elim}
use mathlib.Core.Bool.{Bool, true, false}
use mathlib.Core.List.{List, [], ◌∷◌}
use mathlib.Core.List.Memᴰ.{head as here}
use mathlib.Core.List.Memᴰ.{tail as there}
use mathlib.Core.List.{Memᴰ as In}
use Prim.Native.Nat.{ℕ, ◌<◌}
use native.Mathlib.Omega.{arith}
use lib.Dec.{ltb}
use lib.ListN.{length}
use Rattle.sweep.specs.Lists.{keep}
use Rattle.sweep.proofs.Tests.{ask, ltb_yes, ltb_no}
use Rattle.sweep.proofs.Lists.{keep_length}

module _ {P : Type 0} where
  pub keep_more : (f g : P → Bool) (l : List P) (y : P) → In y l → f y ≡ false → g y ≡ true → ((x : P) → In x l → f x ≡ true → g x ≡ true) → length (keep f l) < length (keep g l)
  unfolding keep
  keep_more f g [] y m a b h = elim m [ ]
  keep_more f g (x ∷ l) y (here q) a b h =
      let r = keep_length f g l (λ y m. h y (there m)) in
      let fa : f x ≡ false = rw q at a in
      let ga : g x ≡ true = rw q at b in
      rw (fa, ga) (omega arith)
  keep_more f g (x ∷ l) y (there m) a b h =
      let r = keep_more f g l y m a b (λ y m. h y (there m)) in
      ⊎_elim
      (λ (e : f x ≡ true). rw (e, h x (here refl) e) (omega arith))
      (λ (e : f x ≡ false). ⊎_elim (λ (d : g x ≡ true). rw (e, d) (omega arith)) (λ (d : g x ≡ false). rw (e, d) r) (ask (g x)))
      (ask (f x))

  module _ (less : P → P → Bool) (l : List P)
      (irr : (p : P) → In p l → less p p ≡ false)
      (trans : (p q r : P) → In p l → In q l → In r l → less p q ≡ true → less q r ≡ true → less p r ≡ true)
      (same : (p q : P) → In p l → In q l → less p q ≡ false → less q p ≡ false → p ≡ q) where
    pub rank : P → ℕ
    rank p = length (keep (λ x. less x p) l)

    rank_lt : (p q : P) → In p l → In q l → less p q ≡ true → rank p < rank q
    unfolding rank
    rank_lt p q a b e = keep_more (λ x. less x p) (λ x. less x q) l p a (irr p a) e (λ x m d. trans x p q m a b d e)

    pub rank_inj : (p q : P) → In p l → In q l → rank p ≡ rank q → p ≡ q
    rank_inj p q a b e =
        ⊎_elim
        (λ (d : less p q ≡ true). absurd (omega (arith, rank_lt p q a b d)))
        (λ (d : less p q ≡ false).
        ⊎_elim
        (λ (g : less q p ≡ true). absurd (omega (arith, rank_lt q p b a g)))
        (λ (g : less q p ≡ false). same p q a b d g)
        (ask (less q p)))
        (ask (less p q))

    pub rank_less : (p q : P) → In p l → In q l → less p q ≡ ltb (rank p) (rank q)
    rank_less p q a b =
        ⊎_elim
        (λ (d : less p q ≡ true). rw d (sym (ltb_yes (rank p) (rank q) (rank_lt p q a b d))))
        (λ (d : less p q ≡ false).
        ⊎_elim
        (λ (g : less q p ≡ true). rw d (sym (ltb_no (rank p) (rank q) (omega (arith, rank_lt q p b a g)))))
        (λ (g : less q p ≡ false). rw d (sym (ltb_no (rank p) (rank q) (omega (arith, ap rank (same p q a b d g))))))
        (ask (less q p)))
        (ask (less p q))
