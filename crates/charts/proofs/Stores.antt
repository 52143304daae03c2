-- A run of stores into a list of any kind, `sets`: one run after another is the run of both, and a run from the start.
-- Assumes nothing.
use mathlib.Core.Path.{◌≡◌, sym, ap, ◌∙◌}
use mathlib.Core.List.{List, [], ◌∷◌, ◌++◌}
use Prim.Native.Nat.{ℕ, suc, ◌+◌, ◌≤◌}
use native.Mathlib.Nat.{add-zero, zero-add, add-suc, suc-add}
use lib.ListN.{length, drop, set}
use lib.Seq.{sets, sets-eq}

pub sets_append : {A : Type 0} (l : List A) (i : ℕ) (xs ys : List A) → sets l i (xs ++ ys) ≡ sets (sets l i xs) (i + length xs) ys
sets_append l i [] ys = ap (λ (k : ℕ). sets l k ys) (sym (add-zero i))
sets_append l i (x ∷ xs) ys =
    sets_append (set l i x) (suc i) xs ys
    ∙ ap (λ (k : ℕ). sets (sets (set l i x) (suc i) xs) k ys) (suc-add i (length xs) ∙ sym (add-suc i (length xs)))

pub sets_front : {A : Type 0} (l xs : List A) → length xs ≤ length l → sets l 0 xs ≡ xs ++ drop (length xs) l
sets_front l xs h = sets-eq xs l 0 (rw zero-add h) ∙ ap (λ (k : ℕ). xs ++ drop k l) (zero-add (length xs))
