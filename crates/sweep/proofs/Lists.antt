-- Members that pass a test, and relations between every two members.
use mathlib.Core.Path.{◌≡◌, refl}
use mathlib.Core.Logic.{⊎_elim}
use mathlib.Core.Bool.{Bool, true, false, ◌&&◌}
use mathlib.Core.List.Memᴰ
use mathlib.Core.List.{List, [], ◌∷◌, ◌++◌}
use mathlib.Core.List.Memᴰ.{head as here}
use mathlib.Core.List.Memᴰ.{tail as there}
use mathlib.Core.List.{Memᴰ as In}
use Prim.Native.Nat.{ℕ, zero, suc, ◌≤◌}
use native.Mathlib.Omega.{arith}
use lib.ListN.{length, take}
use Rattle.sweep.specs.Lists.{keep, any, Pairwise}
use Rattle.sweep.proofs.Tests.{ask, clash, or_one, or_left, or_right}

module _ {A : Type 0} where
  pub keep_yes : (f : A → Bool) (x : A) (l : List A) → f x ≡ true → keep f (x ∷ l) ≡ x ∷ keep f l
  unfolding keep
  keep_yes f x l e = rw e

  pub keep_no : (f : A → Bool) (x : A) (l : List A) → f x ≡ false → keep f (x ∷ l) ≡ keep f l
  unfolding keep
  keep_no f x l e = rw e

  pick_out : (f : A → Bool) (y : A) {l m : List A} {x : A} → f y ≡ true → (In x l → In x m × (f x ≡ true)) → In x (y ∷ l) → In x (y ∷ m) × (f x ≡ true)
  pick_out f y e r (here q) = (here q, rw q e)
  pick_out f y e r (there h) = (there (r h).0, (r h).1)

  pub keep_out : (f : A → Bool) (l : List A) {x : A} → In x (keep f l) → In x l × (f x ≡ true)
  unfolding keep
  keep_out f [] h = elim h [ ]
  keep_out f (y ∷ l) {x} h =
      ⊎_elim
      (λ (e : f y ≡ true). pick_out f y e (λ m. keep_out f l m) (rw (keep_yes f y l e) at h))
      (λ (e : f y ≡ false). let r = keep_out f l (rw (keep_no f y l e) at h) in (there r.0, r.1))
      (ask (f y))

  pub keep_in : (f : A → Bool) {x : A} {l : List A} → In x l → f x ≡ true → In x (keep f l)
  keep_in f {x = x} (here {x = y} {xs = l} q) e = rw (keep_yes f y l (rw q at e)) (here q)
  keep_in f {x = x} (there {x = y} {xs = l} m) e =
      ⊎_elim
      (λ (d : f y ≡ true). rw (keep_yes f y l d) (there (keep_in f m e)))
      (λ (d : f y ≡ false). rw (keep_no f y l d) (keep_in f m e))
      (ask (f y))

  pub keep_append : (f : A → Bool) (l m : List A) → keep f (l ++ m) ≡ keep f l ++ keep f m
  unfolding keep
  keep_append f [] m = refl
  keep_append f (x ∷ l) m =
      ⊎_elim (λ (e : f x ≡ true). rw (e, keep_append f l m)) (λ (e : f x ≡ false). rw (e, keep_append f l m)) (ask (f x))

  pub keep_keep : (f g : A → Bool) (l : List A) → keep f (keep g l) ≡ keep (λ x. g x && f x) l
  unfolding keep
  keep_keep f g [] = refl
  keep_keep f g (x ∷ l) =
      ⊎_elim (λ (e : g x ≡ true). rw (e, ← (keep_keep f g l))) (λ (e : g x ≡ false). rw (e, ← (keep_keep f g l))) (ask (g x))

  pub keep_same : (f g : A → Bool) (l : List A) → ((x : A) → In x l → f x ≡ g x) → keep f l ≡ keep g l
  unfolding keep
  keep_same f g [] h = refl
  keep_same f g (x ∷ l) h = rw (h x (here refl), keep_same f g l (λ y m. h y (there m)))

  pub keep_none : (f : A → Bool) (l : List A) → ((x : A) → In x l → f x ≡ false) → keep f l ≡ []
  unfolding keep
  keep_none f [] h = refl
  keep_none f (x ∷ l) h = rw (h x (here refl), keep_none f l (λ y m. h y (there m)))

  -- a weaker test keeps at least as many
  pub keep_length : (f g : A → Bool) (l : List A) → ((x : A) → In x l → f x ≡ true → g x ≡ true) → length (keep f l) ≤ length (keep g l)
  unfolding keep
  keep_length f g [] h = omega arith
  keep_length f g (x ∷ l) h =
      let r = keep_length f g l (λ y m. h y (there m)) in
      ⊎_elim
      (λ (e : f x ≡ true). rw (e, h x (here refl) e) (omega arith))
      (λ (e : f x ≡ false). ⊎_elim (λ (d : g x ≡ true). rw (e, d) (omega arith)) (λ (d : g x ≡ false). rw (e, d) r) (ask (g x)))
      (ask (f x))

  pub keep_fewer : (f : A → Bool) (l : List A) → length (keep f l) ≤ length l
  unfolding keep
  keep_fewer f [] = omega arith
  keep_fewer f (x ∷ l) =
      let r = keep_fewer f l in
      ⊎_elim (λ (e : f x ≡ true). rw e (omega arith)) (λ (e : f x ≡ false). rw e (omega arith)) (ask (f x))

  pub any_in : (f : A → Bool) {x : A} {l : List A} → In x l → f x ≡ true → any f l ≡ true
  unfolding any
  any_in f (here {x = y} {xs = l} q) e = or_left (f y) (any f l) (rw q at e)
  any_in f (there {x = y} {xs = l} m) e = or_right (f y) (any f l) (any_in f m e)

  pub any_out : (f : A → Bool) (l : List A) → any f l ≡ true → (x : A) × In x l × (f x ≡ true)
  unfolding any
  any_out f [] e = clash e refl
  any_out f (y ∷ l) e =
      ⊎_elim
      (λ (d : f y ≡ true). (y, here refl, d))
      (λ (d : any f l ≡ true). let r = any_out f l d in (r.0, there r.1, r.2))
      (or_one (f y) (any f l) e)

  pub take_in : (m : ℕ) (l : List A) {x : A} → In x (take m l) → In x l
  take_in zero l h = elim h [ ]
  take_in (suc m) [] h = h
  take_in (suc m) (p ∷ l) (here e) = here e
  take_in (suc m) (p ∷ l) (there h) = there (take_in m l h)

  module _ (R : A → A → Type 0) where
    pub pairwise_map : (S : A → A → Type 0) (l : List A) → ((x y : A) → In x l → In y l → R x y → S x y) → Pairwise R l → Pairwise S l
    pairwise_map S [] f a = tt
    pairwise_map S (x ∷ l) f a = (λ y m. f x y (here refl) (there m) (a.0 y m), pairwise_map S l (λ y z m k. f y z (there m) (there k)) a.1)

    pub pairwise_append : (l m : List A) → Pairwise R l → Pairwise R m → ((x y : A) → In x l → In y m → R x y) → Pairwise R (l ++ m)
    pairwise_append [] m a b f = b
    pairwise_append (x ∷ l) m a b f = (
      λ y h. ⊎_elim (λ (k : In y l). a.0 y k) (λ (k : In y m). f x y (here refl) k) (Memᴰ.append_cases l h),
      pairwise_append l m a.1 b (λ y z h k. f y z (there h) k),
    )

    -- of two joined lists: each alone, and every member of the first with every member of the second
    pub pairwise_left : (l m : List A) → Pairwise R (l ++ m) → Pairwise R l
    pairwise_left [] m a = tt
    pairwise_left (x ∷ l) m a = (λ y h. a.0 y (Memᴰ.append_left m h), pairwise_left l m a.1)

    pub pairwise_right : (l m : List A) → Pairwise R (l ++ m) → Pairwise R m
    pairwise_right [] m a = a
    pairwise_right (x ∷ l) m a = pairwise_right l m a.1

    pub pairwise_across : (l m : List A) → Pairwise R (l ++ m) → {x y : A} → In x l → In y m → R x y
    pairwise_across [] m a h k = elim h [ ]
    pairwise_across (x ∷ l) m a {y = y} (here e) k = rw e (a.0 y (Memᴰ.append_right l k))
    pairwise_across (x ∷ l) m a (there h) k = pairwise_across l m a.1 h k

    pub pairwise_keep : (f : A → Bool) (l : List A) → Pairwise R l → Pairwise R (keep f l)
    unfolding keep
    pairwise_keep f [] a = tt
    pairwise_keep f (x ∷ l) a =
        ⊎_elim
        (λ (e : f x ≡ true). rw (keep_yes f x l e) (λ y m. a.0 y (keep_out f l m).0, pairwise_keep f l a.1))
        (λ (e : f x ≡ false). rw (keep_no f x l e) (pairwise_keep f l a.1))
        (ask (f x))

    pub pairwise_take : (m : ℕ) (l : List A) → Pairwise R l → Pairwise R (take m l)
    pairwise_take zero l u = tt
    pairwise_take (suc m) [] u = tt
    pairwise_take (suc m) (p ∷ l) u = (λ y h. u.0 y (take_in m l h), pairwise_take m l u.1)
