-- A renewed block has no more pieces than the block and those that start.
use mathlib.Core.Path.{◌≡◌, refl, ◌∙◌}
use mathlib.Core.Bool.{Bool}
use mathlib.Core.List.{List, [], ◌∷◌, ◌++◌}
use Prim.Native.Nat.{ℕ, ◌+◌, ◌≤◌}
use native.Mathlib.Omega.{arith}
use lib.ListN.{length, length-append}
use Rattle.sweep.specs.Lists.{keep}
use Rattle.sweep.proofs.Lists.{keep_fewer}
use Rattle.full_active.specs.Ranks.{backwards}

back_length : (l : List ℕ) → length (backwards l) ≡ length l
unfolding backwards
back_length [] = refl
back_length (x ∷ l) = length-append (backwards l) (x ∷ []) ∙ omega (arith, back_length l)

pub no_more : (f : ℕ → Bool) (l new : List ℕ) → length (keep f (backwards l) ++ new) ≤ length l + length new
no_more f l new = omega (arith, length-append (keep f (backwards l)) new, keep_fewer f (backwards l), back_length l)
