-- Numbers in order, pairs of them, and adjacent pairs.
use mathlib.Core.Path.{◌≡◌, refl, sym, ap}
use mathlib.Core.Logic.{◌⊎◌, inl, inr, ⊎_elim, ◌≢◌, by_cases}
use mathlib.Core.Bool.{Bool, true, false, ◌&&◌}
use mathlib.Core.List.Memᴰ
use mathlib.Core.List.{List, [], ◌∷◌, ◌++◌, map}
use mathlib.Core.List.Memᴰ.{head as here}
use mathlib.Core.List.Memᴰ.{tail as there}
use mathlib.Core.List.{Memᴰ as In}
use Prim.Native.Nat.{ℕ, zero, suc, ◌<◌}
use native.Mathlib.Omega.{arith}
use native.Mathlib.Decide.{ℕ_discrete}
use lib.Dec.{eqb, ltb}
use lib.ListN.{length, length-append}
use borrow.Author.Tests.{ltb-true, ltb-false, eqb-true}
use Rattle.sweep.specs.Lists.{upto, keep, Pair, same_pair, among, pairs, lesser_first, adjacent_from, adjacent, Pairwise}
use Rattle.sweep.proofs.Tests.{ask, and_both, same_test, eqb_yes}
use Rattle.sweep.proofs.Lists.{keep_append, keep_none, any_in, any_out, pairwise_map, pairwise_append}

pub upto_out : (n : ℕ) {i : ℕ} → In i (upto n) → i < n
unfolding upto
upto_out zero m = elim m [ ]
upto_out (suc n) {i} m =
    ⊎_elim (λ (h : In i (upto n)). omega (arith, upto_out n h)) (λ (h : In i (n ∷ [])). one h) (Memᴰ.append_cases (upto n) m)
  where
    one : In i (n ∷ []) → i < suc n
    one (here e) = omega arith
    one (there k) = elim k [ ]

pub upto_in : (n i : ℕ) → i < n → In i (upto n)
unfolding upto
upto_in zero i h = absurd (omega arith)
upto_in (suc n) i h =
    by_cases (ℕ_discrete i n)
    (λ (e : i ≡ n). Memᴰ.append_right (upto n) (here e))
    (λ (e : i ≢ n). Memᴰ.append_left _ (upto_in n i (omega arith)))

pub upto_up : (n : ℕ) → Pairwise ◌<◌ (upto n)
unfolding upto
upto_up zero = tt
upto_up (suc n) = pairwise_append ◌<◌ (upto n) (n ∷ []) (upto_up n) (λ y m. elim m [ ], tt) (λ i j m k. below i j m k)
  where
    below : (i j : ℕ) → In i (upto n) → In j (n ∷ []) → i < j
    below i j m (here e) = omega (arith, upto_out n m)
    below i j m (there k) = elim k [ ]

pub upto_once : (n : ℕ) → Pairwise (λ i j. i ≢ j) (upto n)
upto_once n = pairwise_map ◌<◌ (λ i j. i ≢ j) (upto n) (λ x y a b h. omega arith) (upto_up n)

pub upto_length : (n : ℕ) → length (upto n) ≡ n
unfolding upto
upto_length zero = refl
upto_length (suc n) = omega (arith, length-append (upto n) (n ∷ []), upto_length n)

-- the pairs of one piece with those after it
beside_out : (i : ℕ) (l : List ℕ) {q : Pair} → In q (map (λ (j : ℕ). (i, j)) l) → (q.0 ≡ i) × In q.1 l
beside_out i [] m = elim m [ ]
beside_out i (j ∷ l) (here e) = (ap (λ (z : Pair). z.0) e, here (ap (λ (z : Pair). z.1) e))
beside_out i (j ∷ l) (there m) = let r = beside_out i l m in (r.0, there r.1)

pub pairs_out : (l : List ℕ) {q : Pair} → Pairwise ◌<◌ l → In q (pairs l) → In q.0 l × In q.1 l × (q.0 < q.1)
unfolding pairs
pairs_out [] u m = elim m [ ]
pairs_out (i ∷ l) {q} u m =
    ⊎_elim
    (λ (h : In q (map (λ (j : ℕ). (i, j)) l)). let r = beside_out i l h in (here r.0, there r.1, rw r.0 (u.0 q.1 r.1)))
    (λ (h : In q (pairs l)). let r = pairs_out l u.1 h in (there r.0, there r.1, r.2))
    (Memᴰ.append_cases (map (λ (j : ℕ). (i, j)) l) m)

pub pairs_in : {i j : ℕ} {l : List ℕ} → Pairwise ◌<◌ l → In i l → In j l → i < j → In (i, j) (pairs l)
unfolding pairs
pairs_in u (here e) (here d) h = absurd (omega arith)
pairs_in {j = j} u (here {x = x} {xs = l} e) (there m) h = Memᴰ.append_left {s = map (λ (j : ℕ). (x, j)) l} (pairs l) (rw e (Memᴰ.map (λ (j : ℕ). (x, j)) m))
pairs_in {i = i} u (there {x = x} {xs = l} m) (here d) h = absurd (omega (arith, u.0 i m))
pairs_in u (there {x = x} {xs = l} m) (there k) h = Memᴰ.append_right (map (λ (j : ℕ). (x, j)) l) (pairs_in u.1 m k h)

-- by the lesser number, then by the greater
abbrev pub Sooner : Pair → Pair → Type 0
Sooner q r = (q.0 < r.0) ⊎ ((q.0 ≡ r.0) × (q.1 < r.1))

beside_sooner : (i : ℕ) (l : List ℕ) → Pairwise ◌<◌ l → Pairwise Sooner (map (λ (j : ℕ). (i, j)) l)
beside_sooner i [] u = tt
beside_sooner i (j ∷ l) u = (λ z m. let r = beside_out i l m in inr (sym r.0, u.0 z.1 r.1), beside_sooner i l u.1)

pub pairs_sooner : (l : List ℕ) → Pairwise ◌<◌ l → Pairwise Sooner (pairs l)
unfolding pairs
pairs_sooner [] u = tt
pairs_sooner (i ∷ l) u =
    pairwise_append Sooner (map (λ (j : ℕ). (i, j)) l) (pairs l) (beside_sooner i l u.1) (pairs_sooner l u.1)
    (λ a b m k. inl (rw (beside_out i l m).0 (u.0 b.0 (pairs_out l u.1 k).0)))

pub sooner_ne : (q r : Pair) → Sooner q r → q ≢ r
sooner_ne q r (inl h) e = let d = ap (λ (w : Pair). w.0) e in omega arith
sooner_ne q r (inr (g, h)) e = let d = ap (λ (w : Pair). w.1) e in omega arith

pub pairs_once : (l : List ℕ) → Pairwise ◌<◌ l → Pairwise (λ (q r : Pair). q ≢ r) (pairs l)
pairs_once l u = pairwise_map Sooner (λ q r. q ≢ r) (pairs l) (λ q r a b h. sooner_ne q r h) (pairs_sooner l u)

abbrev pub both : (ℕ → Bool) → Pair → Bool
both f q = f q.0 && f q.1

keep_beside : (f : ℕ → Bool) (i : ℕ) (l : List ℕ) → f i ≡ true → keep (both f) (map (λ (j : ℕ). (i, j)) l) ≡ map (λ (j : ℕ). (i, j)) (keep f l)
unfolding keep
keep_beside f i [] e = refl
keep_beside f i (j ∷ l) e =
    ⊎_elim (λ (d : f j ≡ true). rw (e, d, keep_beside f i l e)) (λ (d : f j ≡ false). rw (e, d) (keep_beside f i l e)) (ask (f j))

pub pairs_keep : (f : ℕ → Bool) (l : List ℕ) → pairs (keep f l) ≡ keep (both f) (pairs l)
unfolding pairs keep
pairs_keep f [] = refl
pairs_keep f (i ∷ l) =
    ⊎_elim
    (λ (d : f i ≡ true). rw (d, pairs_keep f l, keep_append, keep_beside f i l d))
    (λ (d : f i ≡ false).
    rw (d, pairs_keep f l, keep_append, keep_none (both f) (map (λ (j : ℕ). (i, j)) l) (λ q m. rw ((beside_out i l m).0, d))))
    (ask (f i))

-- a pair is among a list where it is a member
pub among_in : {q : Pair} {l : List Pair} → In q l → among q l ≡ true
unfolding among same_pair
among_in {q} m = any_in (same_pair q) m (rw (eqb_yes q.0 q.0 refl, eqb_yes q.1 q.1 refl))

pub among_out : (q : Pair) (l : List Pair) → among q l ≡ true → In q l
unfolding among same_pair
among_out q l e =
    let r = any_out (same_pair q) l e in
    let d = and_both (eqb q.0 r.0.0) (eqb q.1 r.0.1) r.2 in
    let g : q ≡ r.0 = λ i. (eqb-true q.0 r.0.0 d.0 i, eqb-true q.1 r.0.1 d.1 i) in
    rw g r.1

pub among_no : (q : Pair) (l : List Pair) → ¬ In q l → among q l ≡ false
among_no q l h = ⊎_elim (λ (e : among q l ≡ true). absurd (h (among_out q l e))) (λ (e : among q l ≡ false). e) (ask (among q l))

-- another pair at the end makes no difference
pub among_snoc : (q r : Pair) (l : List Pair) → q ≢ r → among q (l ++ (r ∷ [])) ≡ among q l
among_snoc q r l ne =
    same_test (among q (l ++ (r ∷ []))) (among q l)
    (λ e. among_in (drop (Memᴰ.append_cases l (among_out q (l ++ (r ∷ [])) e))))
    (λ e. among_in (Memᴰ.append_left (r ∷ []) (among_out q l e)))
  where
    drop : In q l ⊎ In q (r ∷ []) → In q l
    drop (inl m) = m
    drop (inr (here e)) = absurd (ne e)
    drop (inr (there k)) = elim k [ ]

-- the two numbers of a pair, in order
pub lesser_two : (i j : ℕ) → (lesser_first i j ≡ (i, j)) ⊎ (lesser_first i j ≡ (j, i))
unfolding lesser_first
lesser_two i j = ⊎_elim (λ (e : ltb i j ≡ true). inl (rw (e, lesser_first))) (λ (e : ltb i j ≡ false). inr (rw (e, lesser_first))) (ask (ltb i j))

pub lesser_up : (i j : ℕ) → i ≢ j → (lesser_first i j).0 < (lesser_first i j).1
unfolding lesser_first
lesser_up i j ne =
    ⊎_elim
    (λ (e : ltb i j ≡ true). rw (e, lesser_first) (omega (arith, ltb-true)))
    (λ (e : ltb i j ≡ false). rw (e, lesser_first) (omega (arith, ltb-false)))
    (ask (ltb i j))

-- what an adjacent pair is
abbrev pub TwoOf : List ℕ → Pair → Type 0
TwoOf l q = (a : ℕ) × (b : ℕ) × In a l × In b l × (a ≢ b) × (q ≡ lesser_first a b)

adjacent_from_out : (i : ℕ) (l : List ℕ) {q : Pair} → In q (adjacent_from i l) → Pairwise (λ a b. a ≢ b) (i ∷ l) → TwoOf (i ∷ l) q
unfolding adjacent_from
adjacent_from_out i [] m d = elim m [ ]
adjacent_from_out i (j ∷ l) (here e) d = (i, j, here refl, there (here refl), d.0 j (here refl), e)
adjacent_from_out i (j ∷ l) (there m) d = let r = adjacent_from_out j l m d.1 in (r.0, r.1, there r.2, there r.3, r.4, r.5)

pub adjacent_out : (l : List ℕ) {q : Pair} → In q (adjacent l) → Pairwise (λ a b. a ≢ b) l → TwoOf l q
unfolding adjacent
adjacent_out [] m d = elim m [ ]
adjacent_out (i ∷ l) m d = adjacent_from_out i l m d
