-- The front of a list that is passed, and what its members leave in the flags and the marks, one after the other.
use mathlib.Core.Path.{◌≡◌, refl, sym, ap, ◌∙◌}
use mathlib.Core.Logic.{◌⊎◌, inl, inr, ⊎_elim}
use mathlib.Core.Bool.{Bool, true, false}
use mathlib.Core.List.{List, [], ◌∷◌, ◌++◌}
use Prim.Native.Nat.{ℕ, zero, suc, ◌+◌, ◌-◌, ◌/◌, ◌≤◌, ◌<◌}
use native.Mathlib.Omega.{arith}
use native.Mathlib.Numerals.{add-one}
use lib.ListN.{length, get_or, set, take, drop, length-drop}
use lib.Seq.{slice, take-suc, drop-drop}
use borrow.Author.Tests.{lt-ltb}
use Rattle.std.proofs.lemmas.Bool.{cases_lt}
use Rattle.std.proofs.lemmas.List.{drop-take, take_all}
use Rattle.std.proofs.lemmas.Slice.{between_is}
use Rattle.sweep.specs.Lists.{keep}
use Rattle.sweep.proofs.Tests.{and_both}
use Rattle.sweep.proofs.Lists.{keep_append}
use Rattle.ported_arrays.specs.Insertion.{front, rest}
use Rattle.ported_arrays.specs.Event.{flag, halves, pieces, free_all}
use Rattle.ported_passing.specs.Passing.{Passing, stands_at}

-- the front ends at the first member that does not pass
front_at : (f : ℕ → Bool) (l : List ℕ) (k : ℕ) → k ≤ length l → ((j : ℕ) → j < k → f (get_or l j 0) ≡ true)
    → (length l ≤ k) ⊎ (f (get_or l k 0) ≡ false) → (front f l ≡ take k l) × (rest f l ≡ drop k l)
unfolding front rest
front_at f [] zero h p t = (refl, refl)
front_at f [] (suc k) h p t = absurd (omega arith)
front_at f (x ∷ l) zero h p t = ⊎_elim (λ (m : length (x ∷ l) ≤ 0). absurd (omega arith)) (λ (m : f x ≡ false). rw m (refl, refl)) t
front_at f (x ∷ l) (suc k) h p t =
    let e : f x ≡ true = p 0 (omega arith) in
    let u : (length l ≤ k) ⊎ (f (get_or l k 0) ≡ false) =
    ⊎_elim (λ (m : length (x ∷ l) ≤ suc k). inl (omega arith)) (λ (m : f (get_or l k 0) ≡ false). inr m) t in
    let r = front_at f l k (omega arith) (λ j i. p (suc j) (omega arith)) u in
    rw e (ap (λ (z : List ℕ). x ∷ z) r.0, r.1)

module _ (f : ℕ → Bool) (l : List ℕ) where
  stands : (j : ℕ) → stands_at f l j ≡ true → f (get_or l j 0) ≡ true
  unfolding stands_at
  stands j e = (and_both _ _ e).1

  falls : (k : ℕ) → stands_at f l k ≡ false → (length l ≤ k) ⊎ (f (get_or l k 0) ≡ false)
  unfolding stands_at
  falls k e = ⊎_elim (λ (z : k < length l). inr (rw (lt-ltb k (length l) z) at e)) (λ (z : length l ≤ k). inl z) (cases_lt k (length l))

-- l is the list from place `from` on, of which k members stand at its front
pub passing : {f : ℕ → Bool} {all l : List ℕ} (from k : ℕ) → from ≤ length all → l ≡ drop from all → k ≤ length l
    → ((j : ℕ) → j < k → stands_at f l j ≡ true) → stands_at f l k ≡ false → Passing f all from (from + k)
passing {f} {all} {l} from k h e within p t =
    let r : (front f l ≡ take k l) × (rest f l ≡ drop k l) = front_at f l k within (λ j i. stands f l j (p j i)) (falls f l k t) in
    let s : (front f (drop from all) ≡ take k (drop from all)) × (rest f (drop from all) ≡ drop k (drop from all)) = rw e at r in
    record {
      onwards = omega arith;
      within = omega (arith, ap length e, length-drop from all);
      passed = drop-take from k all ∙ sym s.0;
      left = sym (drop-drop k from all) ∙ sym s.1;
    }

-- those passed, when all of them are
pub passed_all : (l : List ℕ) (from to k : ℕ) → length (take (to - from) (drop from l)) ≤ k → take k (take (to - from) (drop from l)) ≡ slice from to l
passed_all l from to k h = take_all k (take (to - from) (drop from l)) h ∙ between_is l from to

-- flags and freed marks of one number more
flag_append : (xs ys l : List ℕ) → flag (xs ++ ys) l ≡ flag ys (flag xs l)
unfolding flag
flag_append [] ys l = refl
flag_append (x ∷ xs) ys l = flag_append xs ys (set l x 1)

halves_append : (xs ys : List ℕ) → halves (xs ++ ys) ≡ halves xs ++ halves ys
unfolding halves
halves_append [] ys = refl
halves_append (x ∷ xs) ys = ap (λ (z : List ℕ). x / 2 ∷ z) (halves_append xs ys)

pieces_append : (xs ys : List ℕ) → pieces (xs ++ ys) ≡ pieces xs ++ pieces ys
unfolding pieces
pieces_append [] ys = refl
pieces_append (x ∷ xs) ys = rw (pieces_append xs ys)

free_append : (xs ys m : List ℕ) → free_all (xs ++ ys) m ≡ free_all ys (free_all xs m)
unfolding free_all
free_append [] ys m = refl
free_append (x ∷ xs) ys m = free_append xs ys _

module _ (l : List ℕ) (k : ℕ) (inside : k < length l) where
  one_more : take (k + 1) l ≡ take k l ++ (get_or l k 0 ∷ [])
  one_more = rw add-one (take-suc l k 0 inside)

  pub flag_more : (sort : ℕ → Bool) (flags : List ℕ) {now next : List ℕ} → now ≡ flag (halves (keep sort (take k l))) flags
      → next ≡ flag (halves (keep sort (get_or l k 0 ∷ []))) now → next ≡ flag (halves (keep sort (take (k + 1) l))) flags
  flag_more sort flags e n =
      n
      ∙ ap (flag (halves (keep sort (get_or l k 0 ∷ [])))) e
      ∙ sym (ap (λ (z : List ℕ). flag (halves (keep sort z)) flags) one_more
      ∙ ap (λ (z : List ℕ). flag (halves z) flags) (keep_append sort (take k l) (get_or l k 0 ∷ []))
      ∙ ap (λ (z : List ℕ). flag z flags) (halves_append (keep sort (take k l)) (keep sort (get_or l k 0 ∷ [])))
      ∙ flag_append (halves (keep sort (take k l))) (halves (keep sort (get_or l k 0 ∷ []))) flags)

  pub turn_more : (flags : List ℕ) {now next : List ℕ} → now ≡ flag (pieces (take k l)) flags → next ≡ flag (pieces (get_or l k 0 ∷ [])) now
      → next ≡ flag (pieces (take (k + 1) l)) flags
  turn_more flags e n =
      n
      ∙ ap (flag (pieces (get_or l k 0 ∷ []))) e
      ∙ sym (ap (λ (z : List ℕ). flag (pieces z) flags) one_more
      ∙ ap (λ (z : List ℕ). flag z flags) (pieces_append (take k l) (get_or l k 0 ∷ []))
      ∙ flag_append (pieces (take k l)) (pieces (get_or l k 0 ∷ [])) flags)

  pub free_more : (marks : List ℕ) {now next : List ℕ} → now ≡ free_all (take k l) marks → next ≡ free_all (get_or l k 0 ∷ []) now
      → next ≡ free_all (take (k + 1) l) marks
  free_more marks e n =
      n
      ∙ ap (free_all (get_or l k 0 ∷ [])) e
      ∙ sym (ap (λ (z : List ℕ). free_all z marks) one_more ∙ free_append (take k l) (get_or l k 0 ∷ []) marks)
