-- Distinct numbers put in order one by one; a list read backwards.
use mathlib.Core.Path.{◌≡◌, sym, ◌∙◌}
use mathlib.Core.Logic.{◌≢◌, ⊎_elim}
use mathlib.Core.Bool.{Bool, true, false}
use mathlib.Core.List.Memᴰ
use mathlib.Core.List.{List, [], ◌∷◌}
use mathlib.Core.List.Memᴰ.{head as here}
use mathlib.Core.List.Memᴰ.{tail as there}
use mathlib.Core.List.{Memᴰ as In}
use Prim.Native.Nat.{ℕ, ◌<◌}
use native.Mathlib.Omega.{arith}
use borrow.Author.Tests.{ltb-true, ltb-false}
use lib.Dec.{ltb}
use Rattle.sweep.specs.Lists.{upto, keep, sort, Pairwise}
use Rattle.sweep.proofs.Tests.{ltb_yes}
use Rattle.sweep.proofs.Lists.{keep_in, keep_out, pairwise_map, pairwise_append, pairwise_keep}
use Rattle.sweep.proofs.Sorting.{sort_in, sort_out, sort_sorted}
use Rattle.sweep.proofs.Pairs.{upto_in, upto_out, upto_up}
use Rattle.ported_arrays.specs.Insertion.{insert_all}
use Rattle.ported_arrays.proofs.Resorting.{inserted_sort}
use Rattle.ported_arrays.proofs.Joining.{ascending_one}
use Rattle.full_active.specs.Ranks.{backwards}

-- ---- by number
abbrev Any : ℕ → Type 0
Any i = Unit {0}

up_trans : (x y z : ℕ) → Any x → Any y → Any z → ltb x y ≡ true → ltb y z ≡ true → ltb x z ≡ true
up_trans x y z a b c e f = ltb_yes x z (omega (arith, ltb-true x y e, ltb-true y z f))

up_total : (x y : ℕ) → Any x → Any y → x ≢ y → ltb x y ≡ false → ltb y x ≡ true
up_total x y a b ne e = ltb_yes y x (omega (arith, ltb-false x y e, ne))

-- the numbers below n that pass a test, put in order
pub ascended : (n : ℕ) (f : ℕ → Bool) (xs : List ℕ) → Pairwise (λ x y. x ≢ y) xs → ((i : ℕ) → In i xs → (i < n) × (f i ≡ true))
    → ((i : ℕ) → i < n → f i ≡ true → In i xs) → insert_all ltb [] xs ≡ keep f (upto n)
ascended n f xs once out into =
    inserted_sort ltb Any up_trans up_total xs (λ y m. tt) once
    ∙ ascending_one (sort ltb xs) (keep f (upto n))
    (pairwise_map (λ x y. ltb x y ≡ true) ◌<◌ (sort ltb xs) (λ x y a b e. ltb-true x y e) (sort_sorted ltb Any up_trans up_total xs (λ y m. tt) once))
    (pairwise_keep ◌<◌ f (upto n) (upto_up n))
    (λ z m. let r = out z (sort_out ltb xs m) in keep_in f (upto_in n z r.0) r.1)
    (λ z m. let k = keep_out f (upto n) m in sort_in ltb (into z (upto_out n k.0) k.1))

-- ---- backwards
pub back_out : (l : List ℕ) {i : ℕ} → In i (backwards l) → In i l
unfolding backwards
back_out [] m = m
back_out (x ∷ l) {i} m = ⊎_elim (λ (h : In i (backwards l)). there (back_out l h)) (λ (h : In i (x ∷ [])). own h) (Memᴰ.append_cases (backwards l) m)
  where
    own : In i (x ∷ []) → In i (x ∷ l)
    own (here e) = here e
    own (there h) = elim h [ ]

pub back_in : {i : ℕ} {l : List ℕ} → In i l → In i (backwards l)
unfolding backwards
back_in (here {xs = l} e) = Memᴰ.append_right (backwards l) (here e)
back_in (there {x = x} {xs = l} m) = Memᴰ.append_left (x ∷ []) (back_in m)

pub back_once : (l : List ℕ) → Pairwise (λ x y. x ≢ y) l → Pairwise (λ x y. x ≢ y) (backwards l)
unfolding backwards
back_once [] u = tt
back_once (x ∷ l) u = pairwise_append (λ x y. x ≢ y) (backwards l) (x ∷ []) (back_once l u.1) (λ y m. elim m [ ], tt) (λ a b m k. last a b m k)
  where
    last : (a b : ℕ) → In a (backwards l) → In b (x ∷ []) → a ≢ b
    last a b m (here e) d = u.0 a (back_out l m) (sym (d ∙ e))
    last a b m (there h) d = elim h [ ]
