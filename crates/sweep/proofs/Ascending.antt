-- The points of a chart in order, each once; those below a bound stand in front.
use mathlib.Core.Path.{◌≡◌, refl, sym, ap, ◌∙◌}
use mathlib.Core.Logic.{⊎_elim}
use mathlib.Core.Bool.{true, false}
use mathlib.Core.List.{List, [], ◌∷◌, ◌++◌}
use mathlib.Core.List.Memᴰ.{head as here}
use mathlib.Core.List.Memᴰ.{tail as there}
use mathlib.Core.List.{Memᴰ as In}
use Prim.Native.Nat.{ℕ, suc, ◌≤◌, ◌<◌}
use native.Mathlib.Omega.{arith}
use lib.Dec.{ltb}
use lib.ListN.{length, take}
use borrow.Author.Tests.{ltb-true, ltb-false}
use Rattle.sweep.specs.Lists.{keep, Pairwise}
use Rattle.sweep.specs.Chart.{Chart}
use Rattle.sweep.specs.Sought.{occurring, settle, settled, points}
use Rattle.sweep.specs.Geometry.{Occurs}
use Rattle.sweep.proofs.Tests.{ask, ltb_yes, ltb_no}
use Rattle.sweep.proofs.Lists.{keep_none}
use Rattle.sweep.proofs.Ranked.{Ranked, less_true, less_false}

module _ (C : Chart) (F : Ranked C) where
  open C use {Point, less}
  open F.keyed use {key}

  abbrev Occur : List Point → Type 0
  Occur l = (x : Point) → In x l → Occurs C x

  abbrev pub Up : List Point → Type 0
  Up = Pairwise (λ p q. key p < key q)

  skip : {p q : Point} {l : List Point} → Occur (p ∷ q ∷ l) → Occur (p ∷ l)
  skip f x (here e) = f x (here e)
  skip f x (there m) = f x (there (there m))

  settle_out : (p : Point) (l : List Point) {x : Point} → In x (settle C p l) → In x (p ∷ l)
  unfolding settle
  settle_out p [] m = m
  settle_out p (q ∷ l) {x} m =
      ⊎_elim
      (λ (e : less p q ≡ true). rw e at m)
      (λ (e : less p q ≡ false).
      ⊎_elim
      (λ (d : less q p ≡ true). swap (λ k. settle_out p l k) (rw (e, d) at m))
      (λ (d : less q p ≡ false). there (rw (e, d) at m))
      (ask (less q p)))
      (ask (less p q))
    where
      up : In x (p ∷ l) → In x (p ∷ q ∷ l)
      up (here e) = here e
      up (there k) = there (there k)

      swap : (In x (settle C p l) → In x (p ∷ l)) → In x (q ∷ settle C p l) → In x (p ∷ q ∷ l)
      swap r (here e) = there (here e)
      swap r (there k) = up (r k)

  settle_in : (p : Point) (l : List Point) → Occur (p ∷ l) → {x : Point} → In x (p ∷ l) → In x (settle C p l)
  unfolding settle
  settle_in p [] pl m = m
  settle_in p (q ∷ l) pl {x} m =
      let op = pl p (here refl) in
      let oq = pl q (there (here refl)) in
      ⊎_elim
      (λ (e : less p q ≡ true). rw (e, settle) m)
      (λ (e : less p q ≡ false).
      ⊎_elim
      (λ (d : less q p ≡ true). rw (settle, e, d) (swap (λ k. settle_in p l (skip pl) k) m))
      (λ (d : less q p ≡ false). rw (settle, e, d) (same (F.keyed.key_inj p q op oq (omega (arith, less_false C F.keyed p q op oq e, less_false C F.keyed q p oq op d))) m))
      (ask (less q p)))
      (ask (less p q))
    where
      swap : (In x (p ∷ l) → In x (settle C p l)) → In x (p ∷ q ∷ l) → In x (q ∷ settle C p l)
      swap r (here e) = there (r (here e))
      swap r (there (here e)) = here e
      swap r (there (there k)) = there (r (there k))

      same : p ≡ q → In x (p ∷ q ∷ l) → In x (q ∷ l)
      same d (here e) = here (e ∙ d)
      same d (there k) = k

  settle_up : (p : Point) (l : List Point) → Occur (p ∷ l) → Up l → Up (settle C p l)
  unfolding settle
  settle_up p [] pl u = (λ y m. elim m [ ], tt)
  settle_up p (q ∷ l) pl u =
      let op = pl p (here refl) in
      let oq = pl q (there (here refl)) in
      ⊎_elim
      (λ (e : less p q ≡ true). rw (settle, e) (λ y m. first (less_true C F.keyed p q op oq e) m, u))
      (λ (e : less p q ≡ false).
      ⊎_elim
      (λ (d : less q p ≡ true). rw (settle, e, d) (λ y m. then (less_true C F.keyed q p oq op d) (settle_out p l m), settle_up p l (skip pl) u.1))
      (λ (d : less q p ≡ false). rw (settle, e, d) u)
      (ask (less q p)))
      (ask (less p q))
    where
      first : {y : Point} → key p < key q → In y (q ∷ l) → key p < key y
      first h (here e) = rw e h
      first {y} h (there m) = omega (arith, u.0 y m)

      then : {y : Point} → key q < key p → In y (p ∷ l) → key q < key y
      then h (here e) = rw e h
      then {y} h (there m) = u.0 y m

  settled_out : (l : List Point) {x : Point} → In x (settled C l) → In x l
  unfolding settled
  settled_out [] m = m
  settled_out (p ∷ l) {x} m = fix (λ k. settled_out l k) (settle_out p (settled C l) m)
    where
      fix : (In x (settled C l) → In x l) → In x (p ∷ settled C l) → In x (p ∷ l)
      fix r (here e) = here e
      fix r (there k) = there (r k)

  settled_occur : (p : Point) (l : List Point) → Occur (p ∷ l) → Occur (p ∷ settled C l)
  settled_occur p l f x (here e) = f x (here e)
  settled_occur p l f x (there m) = f x (there (settled_out l m))

  settled_in : (l : List Point) → Occur l → {x : Point} → In x l → In x (settled C l)
  unfolding settled
  settled_in [] f m = m
  settled_in (p ∷ l) f (here e) = settle_in p (settled C l) (settled_occur p l f) (here e)
  settled_in (p ∷ l) f (there m) = settle_in p (settled C l) (settled_occur p l f) (there (settled_in l (λ x k. f x (there k)) m))

  settled_up : (l : List Point) → Occur l → Up (settled C l)
  unfolding settled
  settled_up [] f = tt
  settled_up (p ∷ l) f = settle_up p (settled C l) (settled_occur p l f) (settled_up l (λ x k. f x (there k)))

  pub points_out : {p : Point} → In p (points C) → Occurs C p
  unfolding points
  points_out m = settled_out (occurring C) m

  pub points_in : {p : Point} → Occurs C p → In p (points C)
  unfolding points
  points_in m = settled_in (occurring C) (λ x k. k) m

  pub points_up : Up (points C)
  unfolding points
  points_up = settled_up (occurring C) (λ x k. k)

  abbrev pub below : ℕ → List Point → List Point
  below t l = keep (λ p. ltb (key p) t) l

  pub below_take : (t : ℕ) (l : List Point) → Up l → below t l ≡ take (length (below t l)) l
  unfolding keep
  below_take t [] u = refl
  below_take t (p ∷ l) u =
      ⊎_elim
      (λ (e : ltb (key p) t ≡ true). rw (e, keep) (ap (λ (z : List Point). p ∷ z) (below_take t l u.1)))
      (λ (e : ltb (key p) t ≡ false). let z : below t l ≡ [] = keep_none _ l (λ x m. ltb_no (key x) t (omega (arith, ltb-false, u.0 x m))) in rw (e, z))
      (ask (ltb (key p) t))

  -- the least point from the bound on is the one more
  pub below_more : (t : ℕ) (p : Point) (l : List Point) → Up l → In p l → t ≤ key p → ((x : Point) → In x l → t ≤ key x → key p ≤ key x) → below (suc (key p)) l ≡ below t l ++ (p ∷ [])
  unfolding keep
  below_more t p [] u m h f = elim m [ ]
  below_more t p (q ∷ l) u m h f =
      ⊎_elim
      (λ (e : ltb (key q) t ≡ true).
      rw (e, ltb_yes (key q) (suc (key p)) (omega (arith, ltb-true)))
      (ap (λ (z : List Point). q ∷ z) (below_more t p l u.1 (tail_of (ltb-true (key q) t e) m) h (λ x k. f x (there k)))))
      (λ (e : ltb (key q) t ≡ false).
      let tq = ltb-false (key q) t e in
      let g : p ≡ q = head_of tq m in
      let kg = ap key g in
      let a : below (suc (key p)) l ≡ [] = keep_none _ l (λ x k. ltb_no (key x) (suc (key p)) (omega (arith, u.0 x k))) in
      let b : below t l ≡ [] = keep_none _ l (λ x k. ltb_no (key x) t (omega (arith, u.0 x k))) in
      rw (e, ltb_yes (key q) (suc (key p)) (omega arith), a, b) (ap (λ (z : Point). z ∷ []) (sym g)))
      (ask (ltb (key q) t))
    where
      tail_of : key q < t → In p (q ∷ l) → In p l
      tail_of g (here e) = absurd (omega (arith, ap key e))
      tail_of g (there k) = k

      head_of : t ≤ key q → In p (q ∷ l) → p ≡ q
      head_of g (here e) = e
      head_of g (there k) = absurd (omega (arith, u.0 p k, f q (here refl) g))

  pub below_all : (t : ℕ) (l : List Point) → ((x : Point) → In x l → key x < t) → below t l ≡ l
  unfolding keep
  below_all t [] f = refl
  below_all t (p ∷ l) f = rw (ltb_yes (key p) t (f p (here refl)), below_all t l (λ x m. f x (there m)))
