-- One number after another filled with the same.
-- Assumes nothing.
use mathlib.Core.Path.{◌≡◌, refl, ap, ◌∙◌}
use mathlib.Core.List.{List, ◌∷◌, ◌++◌}
use Prim.Native.Nat.{ℕ, zero, suc, ◌+◌, ◌<◌}
use native.Mathlib.Numerals.{add-one}
use lib.IntN.{ℤ, pos, negsuc}
use lib.ListN.{length, drop, set, replicate, length-replicate}
use lib.Seq.{drop-cons, set_at}
use Rattle.open_chart.specs.Memory.{memory}
use Rattle.open_chart.specs.Changes.{emptied}

snoc : (i : ℕ) (v : ℤ) (r : List ℤ) → replicate i v ++ (v ∷ r) ≡ v ∷ (replicate i v ++ r)
snoc zero v r = refl
snoc (suc i) v r = ap (λ (l : List ℤ). v ∷ l) (snoc i v r)

pub filled_more : (chart before : List ℤ) (i : ℕ) (v : ℤ) → i < length before → chart ≡ replicate i v ++ drop i before
    → set chart i v ≡ replicate (i + 1) v ++ drop (i + 1) before
filled_more chart before i v h e =
    rw (e, drop-cons before i (pos 0) h, add-one)
    (set_at (replicate i v) _ (drop (suc i) before) v i (length-replicate i v) ∙ snoc i v (drop (suc i) before))

-- after the last one
pub full : (before chart : List ℤ) (i : ℕ) → i ≡ memory → chart ≡ replicate i (negsuc 0) ++ drop i before → chart ≡ emptied before
unfolding emptied
full before chart i e w = rw e at w
