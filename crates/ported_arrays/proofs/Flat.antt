-- The bytes of a list of pairs, and one pair more of them over lent bytes.
use mathlib.Core.Path.{◌≡◌, refl, sym, ap, ◌∙◌}
use mathlib.Core.List.{List, [], ◌∷◌, ◌++◌, append_assoc}
use Prim.Native.Nat.{ℕ, suc, ◌+◌, ◌<◌}
use native.Mathlib.Omega.{arith}
use lib.ListN.{length, drop, set, get_or, length-append}
use lib.Seq.{drop-cons, set_at}
use Rattle.sweep.specs.Lists.{Pair}
use Rattle.ported_arrays.specs.Agreement.{flat}

pub flat_append : (l m : List Pair) → flat (l ++ m) ≡ flat l ++ flat m
unfolding flat
flat_append [] m = refl
flat_append (q ∷ l) m = rw (flat_append l m)

pub flat_length : (l : List Pair) → length (flat l) ≡ length l + length l
unfolding flat
flat_length [] = refl
flat_length (q ∷ l) = omega (arith, flat_length l)

-- two bytes written behind the first ones
pub two_more : (first lent : List ℕ) (k a b : ℕ) → length first ≡ k → k + 1 < length lent
    → set (set (first ++ drop k lent) k a) (k + 1) b ≡ (first ++ (a ∷ b ∷ [])) ++ drop (k + 2) lent
two_more first lent k a b e h =
    let two : suc (suc k) ≡ k + 2 = omega arith in
    let d : drop k lent ≡ get_or lent k 0 ∷ get_or lent (suc k) 0 ∷ drop (suc (suc k)) lent =
    drop-cons lent k 0 (omega arith) ∙ ap (λ (l : List ℕ). get_or lent k 0 ∷ l) (drop-cons lent (suc k) 0 (omega arith)) in
    let x : set (first ++ drop k lent) k a ≡ first ++ a ∷ get_or lent (suc k) 0 ∷ drop (suc (suc k)) lent =
    ap (λ (l : List ℕ). set (first ++ l) k a) d ∙ set_at first (get_or lent k 0) _ a k e in
    let y : first ++ a ∷ get_or lent (suc k) 0 ∷ drop (suc (suc k)) lent ≡ (first ++ (a ∷ [])) ++ get_or lent (suc k) 0 ∷ drop (suc (suc k)) lent = sym (append_assoc first (a ∷ []) _) in
    ap (λ (l : List ℕ). set l (k + 1) b) (x ∙ y)
    ∙ set_at (first ++ (a ∷ [])) (get_or lent (suc k) 0) _ b (k + 1) (length-append first (a ∷ []) ∙ omega arith)
    ∙ append_assoc first (a ∷ []) _
    ∙ sym (append_assoc first (a ∷ b ∷ []) _)
    ∙ ap (λ (i : ℕ). (first ++ (a ∷ b ∷ [])) ++ drop i lent) two
