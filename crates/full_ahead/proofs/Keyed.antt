-- The keys of the ends: no key stands twice, and what a key tells of its end.
use mathlib.Core.Path.{◌≡◌, refl, sym, ap, ◌∙◌}
use mathlib.Core.Logic.{◌≢◌, ◌⊎◌, inl, inr, ⊎_elim}
use mathlib.Core.Bool.{true}
use mathlib.Core.List.{List, [], ◌∷◌, ◌++◌}
use mathlib.Core.List.Memᴰ.{head as here}
use mathlib.Core.List.Memᴰ.{tail as there}
use mathlib.Core.List.{Memᴰ as In}
use Prim.Native.Nat.{ℕ, zero, suc, ◌+◌, ◌*◌, ◌/◌, ◌%◌, ◌<◌, ◌≤◌}
use native.Mathlib.Omega.{arith}
use borrow.Author.Tests.{eqb-true}
use lib.Dec.{ltb}
use lib.IntN.{ℤ, pos, ◌-ℤ◌}
use lib.ListN.{length, take, drop}
use Rattle.integers.proofs.Identity.{terms}
use Rattle.integers.proofs.Naturals.{pos_injective}
use Rattle.integers.proofs.Order.{≡_cert}
use Rattle.integers.proofs.Signs.{≡_diff}
use Rattle.fractions.specs.declared.Point.{Point}
use Rattle.charts.specs.Chart.{most}
use Rattle.sweep.specs.Lists.{Pairwise}
use Rattle.sweep.proofs.Tests.{eqb_yes}
use Rattle.ported_arrays.specs.Numbers.{is_min}
use Rattle.ported_arrays.specs.Insertion.{back, insert}
use Rattle.full_active.specs.Ranks.{of_min}
use Rattle.full_ends.specs.Ends.{end_key, min_key, max_key, sorted_keys}
use Rattle.full_ends.specs.Demand.{standing}
use Rattle.full_ends.proofs.Promises.{sorted_in_order}

-- ---- a key's number is that of its end
numbered : (x y : ℤ) (e : ℕ) → e < 65536 → end_key x y e % 65536 ≡ e
unfolding end_key
numbered x y e h = omega arith

pub min_number : (table : List ℤ) (i : ℕ) → i < most → min_key table i % 65536 ≡ 2 * i
min_number table i h = numbered _ _ (2 * i) (omega arith)

pub max_number : (table : List ℤ) (i : ℕ) → i < most → max_key table i % 65536 ≡ 2 * i + 1
max_number table i h = numbered _ _ (2 * i + 1) (omega arith)

-- ---- keys stand at one point where they are alike but for the number
pub alike_stand : (a b : ℕ) → a / 65536 ≡ b / 65536 → standing a ≡ standing b
alike_stand a b e =
    let u : a / 4294967296 ≡ b / 4294967296 = omega arith in
    λ k. record { x = pos (u k) -ℤ pos 32768; y = pos (e k % 65536) -ℤ pos 32768; d = 1 }

counted_same : (a b : ℕ) → pos a -ℤ pos 32768 ≡ pos b -ℤ pos 32768 → a ≡ b
counted_same a b h = pos_injective (go (pos a) (pos b) h)
  where
    go : (u v : ℤ) → u -ℤ pos 32768 ≡ v -ℤ pos 32768 → u ≡ v
    go u v h = ≡_cert (u ∷ v ∷ []) (≡_diff h) (search terms depth 60 fits 20000) tt

pub stand_alike : (a b : ℕ) → standing a ≡ standing b → a / 65536 ≡ b / 65536
stand_alike a b e =
    let u = counted_same (a / 4294967296) (b / 4294967296) (ap (λ (p : Point). p.x) e) in
    let v = counted_same (a / 65536 % 65536) (b / 65536 % 65536) (ap (λ (p : Point). p.y) e) in
    omega arith

-- ---- no key stands twice
abbrev pub Once : List ℕ → Type 0
Once l = Pairwise (λ x y. x ≢ y) l

put_out : (x : ℕ) (l : List ℕ) (k : ℕ) {z : ℕ} → In z (take k l ++ x ∷ drop k l) → (z ≡ x) ⊎ In z l
put_out x l zero (here e) = inl e
put_out x l zero (there m) = inr m
put_out x [] (suc k) (here e) = inl e
put_out x [] (suc k) (there m) = elim m [ ]
put_out x (y ∷ l) (suc k) (here e) = inr (here e)
put_out x (y ∷ l) (suc k) (there m) = ⊎_elim (λ e. inl e) (λ h. inr (there h)) (put_out x l k m)

put_once : (x : ℕ) (l : List ℕ) (k : ℕ) → ((y : ℕ) → In y l → x ≢ y) → Once l → Once (take k l ++ x ∷ drop k l)
put_once x l zero f u = (f, u)
put_once x [] (suc k) f u = (λ y m. elim m [ ], tt)
put_once x (y ∷ l) (suc k) f u = (
  λ z m e. ⊎_elim (λ (d : z ≡ x). f y (here refl) (sym (e ∙ d))) (λ (h : In z l). u.0 z h e) (put_out x l k m),
  put_once x l k (λ z h. f z (there h)) u.1,
)

insert_out : (x : ℕ) (l : List ℕ) {z : ℕ} → In z (insert ltb x l) → (z ≡ x) ⊎ In z l
unfolding insert
insert_out x l m = put_out x l (back (ltb x) l (length l)) m

insert_once : (x : ℕ) (l : List ℕ) → ((y : ℕ) → In y l → x ≢ y) → Once l → Once (insert ltb x l)
unfolding insert
insert_once x l f u = put_once x l (back (ltb x) l (length l)) f u

number_below : (table : List ℤ) (n : ℕ) → n ≤ most → (k : ℕ) → In k (sorted_keys table n) → k % 65536 < 2 * n
number_below table n few k m = go ((sorted_in_order table n).only k m)
  where
    go : (i : ℕ) × (i < n) × ((k ≡ min_key table i) ⊎ (k ≡ max_key table i)) → k % 65536 < 2 * n
    go (i, h, inl e) = let a = min_number table i (omega arith) in let b = ap (λ (z : ℕ). z % 65536) e in omega arith
    go (i, h, inr e) = let a = max_number table i (omega arith) in let b = ap (λ (z : ℕ). z % 65536) e in omega arith

pub sorted_once : (table : List ℤ) (n : ℕ) → n ≤ most → Once (sorted_keys table n)
unfolding sorted_keys
sorted_once table zero few = tt
sorted_once table (suc n) few =
    insert_once (max_key table n) (insert ltb (min_key table n) (sorted_keys table n)) (λ y m. over y (insert_out (min_key table n) (sorted_keys table n) m))
    (insert_once (min_key table n) (sorted_keys table n) under (sorted_once table n (omega arith)))
  where
    a : min_key table n % 65536 ≡ 2 * n
    a = min_number table n (omega arith)

    b : max_key table n % 65536 ≡ 2 * n + 1
    b = max_number table n (omega arith)

    under : (y : ℕ) → In y (sorted_keys table n) → min_key table n ≢ y
    under y m e = let u = number_below table n (omega arith) y m in let v = ap (λ (z : ℕ). z % 65536) e in omega (arith, a, u, v)

    over : (y : ℕ) → (y ≡ min_key table n) ⊎ In y (sorted_keys table n) → max_key table n ≢ y
    over y (inl d) e = let v = ap (λ (z : ℕ). z % 65536) (e ∙ d) in omega (arith, a, b, v)
    over y (inr m) e = let u = number_below table n (omega arith) y m in let v = ap (λ (z : ℕ). z % 65536) e in omega (arith, b, u, v)

-- ---- a key with an even number is that of a min
pub record MinOf (table : List ℤ) (n e : ℕ) : Type 0 where
  pub piece : ℕ
  pub within : piece < n
  pub is : e ≡ min_key table piece
  pub number : e % 65536 / 2 ≡ piece

pub min_of : (table : List ℤ) (n : ℕ) → n ≤ most → (e : ℕ) → In e (sorted_keys table n) → of_min e ≡ true → MinOf table n e
unfolding of_min is_min
min_of table n few e m y = go ((sorted_in_order table n).only e m)
  where
    even : e % 65536 % 2 ≡ 0
    even = eqb-true (e % 65536 % 2) 0 y

    go : (i : ℕ) × (i < n) × ((e ≡ min_key table i) ⊎ (e ≡ max_key table i)) → MinOf table n e
    go (i, h, inl d) =
        let v : e % 65536 ≡ 2 * i = ap (λ (z : ℕ). z % 65536) d ∙ min_number table i (omega arith) in
        record { piece = i; within = h; is = d; number = omega (arith, v) }
    go (i, h, inr d) =
        let v : e % 65536 ≡ 2 * i + 1 = ap (λ (z : ℕ). z % 65536) d ∙ max_number table i (omega arith) in
        absurd (omega (arith, v, even))

pub min_is : (table : List ℤ) (i : ℕ) → i < most → (of_min (min_key table i) ≡ true) × (min_key table i % 65536 / 2 ≡ i)
unfolding of_min is_min
min_is table i h =
    let v = min_number table i h in
    let z : min_key table i % 65536 % 2 ≡ 0 = omega (arith, v) in
    (eqb_yes _ _ z, omega (arith, v))
