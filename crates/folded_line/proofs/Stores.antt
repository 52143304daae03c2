-- The five numbers of a piece stored at its place, and those of one piece after another.
-- Assumes nothing.
use mathlib.Core.Path.{◌≡◌, refl, sym, ap, ◌∙◌}
use mathlib.Core.List.{List, ◌++◌}
use Prim.Native.Nat.{ℕ, zero, suc, ◌+◌, ◌*◌}
use native.Mathlib.Nat.{zero-add}
use native.Mathlib.Omega.{arith}
use lib.IntN.{ℤ, pos}
use lib.ListN.{length, set, length-append}
use lib.Seq.{sets, length-sets}
use Rattle.charts.proofs.Stores.{sets_append}
use Rattle.folded_line.specs.Line.{kind_of, end_at, joint, five, fives}

module _ (m h s n : ℕ) where
  pub five_length : (j : ℕ) → length (five m h s n j) ≡ 5
  unfolding five
  five_length j = refl

  pub fives_length : (j : ℕ) → length (fives m h s n j) ≡ 5 * j
  unfolding fives
  fives_length zero = refl
  fives_length (suc j) = length-append (fives m h s n j) (five m h s n j) ∙ rw (fives_length j, five_length j) (omega arith)

  pub put_length : (l l' : List ℤ) (j : ℕ) → l' ≡ sets l (5 * j) (five m h s n j) → length l' ≡ length l
  put_length l l' j e = ap length e ∙ length-sets l (5 * j) (five m h s n j)

  -- a piece goes into the list as its kind and its two ends do
  pub put_five : (l : List ℤ) (j a b : ℕ) (k : ℤ) (l' l'' : List ℤ)
      → k ≡ pos (kind_of n j) → a ≡ joint m h s j → b ≡ joint m h s (j + 1)
      → l' ≡ sets (set l (5 * j) k) (5 * j + 1) (end_at m h a) → l'' ≡ sets l' (5 * j + 3) (end_at m h b)
      → l'' ≡ sets l (5 * j) (five m h s n j)
  unfolding five
  put_five l j a b k l' l'' ek ea eb e f =
      f ∙ rw (e, ek, ea, eb) (
      (λ t. sets (sets (set l (5 * j) (pos (kind_of n j))) (i1 t) (end_at m h (joint m h s j))) (i3 t) (end_at m h (joint m h s (i0 t))))
      ∙ sym (sets_append (set l (5 * j) (pos (kind_of n j))) (suc (5 * j)) (end_at m h (joint m h s j)) (end_at m h (joint m h s (suc j)))))
    where
      i0 : j + 1 ≡ suc j
      i0 = omega arith

      i1 : 5 * j + 1 ≡ suc (5 * j)
      i1 = omega arith

      i3 : 5 * j + 3 ≡ suc (5 * j) + 2
      i3 = omega arith

  pub put_fives : (l l' l'' : List ℤ) (j : ℕ) → l' ≡ sets l 0 (fives m h s n j) → l'' ≡ sets l' (5 * j) (five m h s n j) → l'' ≡ sets l 0 (fives m h s n (j + 1))
  unfolding fives
  put_fives l l' l'' j e f =
      f ∙ rw e (ap (λ (k : ℕ). sets (sets l 0 (fives m h s n j)) k (five m h s n j)) (sym (zero-add _ ∙ fives_length j)) ∙ sym (sets_append l 0 (fives m h s n j) (five m h s n j)) ∙ ap (sets l 0) more)
    where
      more : fives m h s n j ++ five m h s n j ≡ fives m h s n (j + 1)
      more = sym (ap (fives m h s n) {x = j + 1} {y = suc j} (omega arith))
