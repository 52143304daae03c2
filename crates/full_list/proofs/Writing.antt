-- Pairs written one by one: what is left to write from here gives the same bytes as all of it from the start.
use mathlib.Core.Path.{◌≡◌, refl, sym, ap, ap₂, subst, ◌∙◌}
use mathlib.Core.Bool.{Bool, true, false}
use mathlib.Core.List.{List, [], ◌∷◌, ◌++◌, map}
use Prim.Native.Nat.{ℕ, suc, ◌+◌, ◌≤◌, ◌<◌}
use native.Mathlib.Omega.{arith}
use native.Mathlib.Numerals.{add-one}
use lib.ListN.{length, get_or, set, drop, length-append, drop_of_length-le}
use lib.Seq.{sets, drop-cons}
use Rattle.sweep.specs.Lists.{Pair, keep, pairs}
use Rattle.sweep.proofs.Lists.{keep_append, keep_yes, keep_no}
use Rattle.charts.proofs.Stores.{sets_append}
use Rattle.ported_arrays.specs.Agreement.{flat}
use Rattle.ported_arrays.proofs.Flat.{flat_append}
use Rattle.full_list.specs.Listed.{partners, Listed}

pub record Rest (all : List Pair) (lent : List ℕ) (end : ℕ) (left : List Pair) (b : List ℕ) (at : ℕ) : Type 0 where
  pub same_bytes : sets b at (flat left) ≡ sets lent end (flat all)
  pub same_end : at + length (flat left) ≡ end + length (flat all)

module _ (all : List Pair) (lent : List ℕ) (end : ℕ) where
  pub rest_start : Rest all lent end all lent end
  rest_start = record { same_bytes = refl; same_end = refl }

  module _ (b : List ℕ) (at : ℕ) where
    pub rest_write : (q : Pair) (left : List Pair) → Rest all lent end (q ∷ left) b at → Rest all lent end left (set (set b at q.0) (at + 1) q.1) (at + 2)
    unfolding flat
    rest_write q left R =
        let two : at + 2 ≡ suc (suc at) = omega arith in
        record {
          same_bytes =
              ap₂ (λ (i : ℕ) (k : ℕ). sets (set (set b at q.0) i q.1) k (flat left)) (add-one at) two ∙ R.same_bytes;
          same_end = omega (arith, R.same_end);
        }

    pub rest_room : (q : Pair) (left : List Pair) → Rest all lent end (q ∷ left) b at → at + 2 ≤ end + length (flat all)
    unfolding flat
    rest_room q left R = omega (arith, R.same_end)

    pub rest_then : (new left : List Pair) (c : List ℕ) (r : ℕ) → Rest all lent end (new ++ left) b at → Listed new b at c r → Rest all lent end left c r
    rest_then new left c r R L =
        record {
          same_bytes =
              ap₂ (λ (l : List ℕ) (i : ℕ). sets l i (flat left)) L.bytes_are L.end_is
              ∙ sym (sets_append b at (flat new) (flat left)) ∙ ap (sets b at) (sym (flat_append new left)) ∙ R.same_bytes;
          same_end = omega (arith, L.end_is, R.same_end, ap length (flat_append new left) ∙ length-append (flat new) (flat left));
        }

    pub rest_fits : (new left : List Pair) → Rest all lent end (new ++ left) b at → at + length (flat new) ≤ end + length (flat all)
    rest_fits new left R = omega (arith, R.same_end, ap length (flat_append new left) ∙ length-append (flat new) (flat left))

    pub rest_end : Rest all lent end [] b at → Listed all lent end b at
    unfolding flat
    rest_end R = record { bytes_are = R.same_bytes; end_is = omega (arith, R.same_end) }

-- one pair
pub pair_written : (a b : ℕ) {q : Pair} → ◌≡◌ {A = Pair} (a, b) q → (lent : List ℕ) (end : ℕ) → Listed (q ∷ []) lent end (set (set lent end a) (end + 1) b) (end + 2)
pair_written a b e lent end =
    let l : List Pair = (a, b) ∷ [] in
    subst (λ (q : Pair). Listed (q ∷ []) lent end (set (set lent end a) (end + 1) b) (end + 2)) e
    (rest_end l lent end _ _ (rest_write l lent end lent end (a, b) [] (rest_start l lent end)))

-- ---- what is left of a row, and of all rows
module _ (f : Pair → Bool) (l : List ℕ) (k : ℕ) (inside : k < length l) where
  next : drop k l ≡ get_or l k 0 ∷ drop (k + 1) l
  next = rw add-one (drop-cons l k 0 inside)

  pub row_more : (i : ℕ) → f (i, get_or l k 0) ≡ true → keep f (partners i (drop k l)) ≡ (i, get_or l k 0) ∷ keep f (partners i (drop (k + 1) l))
  unfolding partners
  row_more i e = ap (λ (z : List ℕ). keep f (map (λ j. (i, j)) z)) next ∙ keep_yes f (i, get_or l k 0) (map (λ j. (i, j)) (drop (k + 1) l)) e

  pub row_same : (i : ℕ) → f (i, get_or l k 0) ≡ false → keep f (partners i (drop k l)) ≡ keep f (partners i (drop (k + 1) l))
  unfolding partners
  row_same i e = ap (λ (z : List ℕ). keep f (map (λ j. (i, j)) z)) next ∙ keep_no f (i, get_or l k 0) (map (λ j. (i, j)) (drop (k + 1) l)) e

pub row_over : (f : Pair → Bool) (l : List ℕ) (i k : ℕ) → length l ≤ k → keep f (partners i (drop k l)) ≡ []
unfolding partners keep
row_over f l i k h = rw (drop_of_length-le l {i = k} h)

pub rows_more : (f : Pair → Bool) (i : ℕ) (l : List ℕ) → keep f (pairs (i ∷ l)) ≡ keep f (partners i l) ++ keep f (pairs l)
unfolding partners pairs
rows_more f i l = keep_append f (map (λ j. (i, j)) l) (pairs l)

pub rows_over : (f : Pair → Bool) (l : List ℕ) → length l ≡ 0 → keep f (pairs l) ≡ []
unfolding pairs keep
rows_over f [] h = refl
rows_over f (x ∷ l) h = absurd (omega arith)
