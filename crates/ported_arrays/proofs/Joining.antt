-- Numbers joined into an ascending list: each once, in order, none left out.
use mathlib.Core.Path.{◌≡◌, refl, sym, ap₂, subst}
use mathlib.Core.Logic.{◌⊎◌, inl, inr, ⊎_elim, ◌≢◌}
use mathlib.Core.Bool.{true, false}
use mathlib.Core.List.{List, [], ◌∷◌}
use mathlib.Core.List.Memᴰ.{head as here}
use mathlib.Core.List.Memᴰ.{tail as there}
use mathlib.Core.List.{Memᴰ as In}
use Prim.Native.Nat.{ℕ, ◌≤◌, ◌<◌}
use native.Mathlib.Omega.{arith}
use lib.Dec.{eqb, ltb}
use lib.ListN.{length}
use borrow.Author.Tests.{eqb-true, ltb-true, ltb-false}
use Rattle.sweep.specs.Lists.{upto, any, place, Pairwise}
use Rattle.sweep.proofs.Tests.{ask, clash, ltb_yes, eqb_yes}
use Rattle.sweep.proofs.Lists.{any_in, any_out, pairwise_map}
use Rattle.sweep.proofs.Sorting.{place_in, place_out}
use Rattle.sweep.proofs.Pairs.{upto_in, upto_length}
use Rattle.ported_arrays.specs.Insertion.{join, join_all}
use Rattle.ported_arrays.proofs.Distinct.{distinct_fit}

abbrev pub Ascending : List ℕ → Type 0
Ascending = Pairwise ◌<◌

head_least : (x y : ℕ) (l : List ℕ) → Ascending (x ∷ l) → In y (x ∷ l) → x ≤ y
head_least x y l u (here e) = omega arith
head_least x y l u (there m) = omega (arith, u.0 y m)

tail_in : (x y z : ℕ) (l m : List ℕ) → x ≡ y → Ascending (x ∷ l) → In z l → In z (y ∷ m) → In z m
tail_in x y z l m e u h (here f) = absurd (omega (arith, u.0 z h))
tail_in x y z l m e u h (there k) = k

-- two ascending lists with the same members are one
pub ascending_one : (l m : List ℕ) → Ascending l → Ascending m → ((z : ℕ) → In z l → In z m) → ((z : ℕ) → In z m → In z l) → l ≡ m
ascending_one [] [] u v f g = refl
ascending_one [] (y ∷ m) u v f g = elim (g y (here refl)) [ ]
ascending_one (x ∷ l) [] u v f g = elim (f x (here refl)) [ ]
ascending_one (x ∷ l) (y ∷ m) u v f g =
    let e : x ≡ y = omega (arith, head_least y x m v (f x (here refl)), head_least x y l u (g y (here refl))) in
    ap₂ (λ (a : ℕ) (k : List ℕ). a ∷ k) e
    (ascending_one l m u.1 v.1
    (λ z h. tail_in x y z l m e u h (f z (there h)))
    (λ z h. tail_in y x z m l (sym e) v h (g z (there h))))

place_ascending : (v : ℕ) (l : List ℕ) → Ascending l → ¬ In v l → Ascending (place ltb v l)
unfolding place
place_ascending v [] u new = (λ y m. elim m [ ], tt)
place_ascending v (x ∷ l) u new =
    ⊎_elim
    (λ (e : ltb v x ≡ true). rw (e, place) (λ y m. omega (arith, ltb-true v x e, head_least x y l u m), u))
    (λ (e : ltb v x ≡ false).
    rw (e, place) (λ y m. behind y (ltb-false v x e) (place_out ltb v l m), place_ascending v l u.1 (λ m. new (there m))))
    (ask (ltb v x))
  where
    apart : v ≢ x
    apart e = new (here e)

    behind : (y : ℕ) → x ≤ v → In y (v ∷ l) → x < y
    behind y h (here e) = omega (arith, apart)
    behind y h (there m) = u.0 y m

module _ (n room : ℕ) (few : n ≤ room) where
  -- what is kept while numbers join
  pub record Joined (l : List ℕ) : Type 0 where
    pub up : Ascending l
    pub below : (y : ℕ) → In y l → y < n

  there_is_room : (v : ℕ) (l : List ℕ) → Joined l → v < n → ¬ In v l → length l < room
  there_is_room v l J h new =
      omega (
        arith,
        upto_length n,
        distinct_fit (v ∷ l) (upto n)
            (λ y m e. new (subst (λ (z : ℕ). In z l) (sym e) m), pairwise_map _ _ l (λ x y m k (o : x < y) e. omega arith) J.up)
            (λ y m. upto_in n y (below y m)),
      )
    where
      below : (y : ℕ) → In y (v ∷ l) → y < n
      below y (here e) = omega arith
      below y (there m) = J.below y m

  -- one number joins
  join_one : (v : ℕ) (l : List ℕ) → Joined l → v < n → ((join room v l ≡ l) × In v l) ⊎ ((join room v l ≡ place ltb v l) × (¬ In v l))
  unfolding join
  join_one v l J h =
      ⊎_elim
      (λ (e : any (eqb v) l ≡ true).
      let r = any_out (eqb v) l e in
      inl (rw e, subst (λ (z : ℕ). In z l) (sym (eqb-true v r.0 r.2)) r.1))
      (λ (e : any (eqb v) l ≡ false).
      let new : ¬ In v l = λ m. clash (any_in (eqb v) m (eqb_yes v v refl)) e in
      inr (rw (e, ltb_yes (length l) room (there_is_room v l J h new)), new))
      (ask (any (eqb v) l))

  joined_one : (v : ℕ) (l : List ℕ) → Joined l → v < n → Joined (join room v l) × ((z : ℕ) → In z (join room v l) → In z (v ∷ l)) × ((z : ℕ) → In z (v ∷ l) → In z (join room v l))
  joined_one v l J h = go (join_one v l J h)
    where
      put : (z : ℕ) → In v l → In z (v ∷ l) → In z l
      put z m (here e) = subst (λ (y : ℕ). In y l) (sym e) m
      put z m (there k) = k

      go : ((join room v l ≡ l) × In v l) ⊎ ((join room v l ≡ place ltb v l) × (¬ In v l))
          → Joined (join room v l) × ((z : ℕ) → In z (join room v l) → In z (v ∷ l)) × ((z : ℕ) → In z (v ∷ l) → In z (join room v l))
      go (inl (e, m)) = rw e (J, λ z k. there k, λ z k. put z m k)
      go (inr (e, new)) =
          rw e (
            record { up = place_ascending v l J.up new; below = λ y k. low y (place_out ltb v l k) },
            λ z k. place_out ltb v l k,
            λ z k. place_in ltb v l k,
          )
        where
          low : (y : ℕ) → In y (v ∷ l) → y < n
          low y (here f) = omega arith
          low y (there k) = J.below y k

  pub joined_all : (vs l : List ℕ) → Joined l → ((v : ℕ) → In v vs → v < n)
      → Joined (join_all room vs l) × ((z : ℕ) → In z (join_all room vs l) → In z vs ⊎ In z l) × ((z : ℕ) → In z vs ⊎ In z l → In z (join_all room vs l))
  unfolding join_all
  joined_all [] l J h = (J, λ z m. inr m, λ z m. none z m)
    where
      none : (z : ℕ) → In z [] ⊎ In z l → In z l
      none z (inl m) = elim m [ ]
      none z (inr m) = m
  joined_all (v ∷ vs) l J h =
      let one = joined_one v l J (h v (here refl)) in
      let all = joined_all vs (join room v l) one.0 (λ w m. h w (there m)) in
      (all.0, λ z m. out z (one.1 z) (all.1 z m), λ z m. into z (one.2 z) (all.2 z) m)
    where
      out : (z : ℕ) → (In z (join room v l) → In z (v ∷ l)) → In z vs ⊎ In z (join room v l) → In z (v ∷ vs) ⊎ In z l
      out z f (inl m) = inl (there m)
      out z f (inr m) = split (f m)
        where
          split : In z (v ∷ l) → In z (v ∷ vs) ⊎ In z l
          split (here e) = inl (here e)
          split (there k) = inr k

      into : (z : ℕ) → (In z (v ∷ l) → In z (join room v l)) → (In z vs ⊎ In z (join room v l) → In z (join_all room vs (join room v l))) → In z (v ∷ vs) ⊎ In z l → In z (join_all room vs (join room v l))
      into z f g (inl (here e)) = g (inr (f (here e)))
      into z f g (inl (there m)) = g (inl m)
      into z f g (inr m) = g (inr (f (there m)))
