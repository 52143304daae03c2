-- One member put into an array or taken out of it, once what stands behind it was moved.
use mathlib.Core.Path.{◌≡◌, sym, ap, ◌∙◌}
use mathlib.Core.List.{List, [], ◌∷◌, ◌++◌}
use Prim.Native.Nat.{ℕ, ◌+◌, ◌-◌, ◌≤◌, ◌<◌}
use native.Mathlib.Omega.{arith}
use lib.ListN.{length, take, drop, set, length-drop}
use lib.Seq.{paste, paste-zero, paste-suc, length-paste, slice}
use Rattle.full_active.proofs.Shifting.{moved, replaced}

module _ (l : List ℕ) (live lo : ℕ) where
  pub put_one : (x : ℕ) → lo ≤ live → live < length l → take (live + 1) (set (moved l (lo + 1) lo live) lo x) ≡ take lo l ++ ((x ∷ []) ++ slice lo live l)
  put_one x h w =
      let t = moved l (lo + 1) lo live in
      let long : length t ≡ length l = length-paste l (lo + 1) (drop lo l) (live - lo) (omega arith) (omega (arith, length-drop lo l)) in
      let here : lo + 0 ≡ lo = omega arith in
      let all : live + 1 ≡ lo + 1 + (live - lo) = omega arith in
      let written : set t lo x ≡ paste t lo (x ∷ []) 1 =
      ap (λ (r : List ℕ). set r lo x) (paste-zero t lo (x ∷ []))
      ∙ ap (λ (i : ℕ). set (paste t lo (x ∷ []) 0) i x) (sym here)
      ∙ paste-suc t lo (x ∷ []) 0 0 (omega arith) (omega arith) in
      ap (take (live + 1)) written
      ∙ ap (λ (k : ℕ). take k (paste t lo (x ∷ []) 1)) all
      ∙ replaced l (x ∷ []) live lo lo 1 (omega arith) h (omega arith) (omega arith) (omega arith)

  pub one_out : lo < live → live ≤ length l → take (live - 1) (moved l lo (lo + 1) live) ≡ take lo l ++ slice (lo + 1) live l
  one_out h w =
      let here : lo + 0 ≡ lo = omega arith in
      let all : live - 1 ≡ lo + 0 + (live - (lo + 1)) = omega arith in
      ap (λ (k : ℕ). take k (moved l lo (lo + 1) live)) all
      ∙ ap (λ (i : ℕ). take (lo + 0 + (live - (lo + 1))) (moved l i (lo + 1) live)) (sym here)
      ∙ ap (take (lo + 0 + (live - (lo + 1)))) (paste-zero (moved l (lo + 0) (lo + 1) live) lo [])
      ∙ replaced l [] live lo (lo + 1) 0 (omega arith) (omega arith) w (omega arith) (omega arith)
