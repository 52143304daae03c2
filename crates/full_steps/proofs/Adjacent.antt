-- Adjacent pairs of joined lists, and parts of what is kept for each of them.
use mathlib.Core.Path.{◌≡◌, refl, ap}
use mathlib.Core.List.{List, [], ◌∷◌, ◌++◌, map}
use mathlib.Core.List.Memᴰ.{head as here}
use mathlib.Core.List.Memᴰ.{tail as there}
use mathlib.Core.List.{Memᴰ as In}
use Prim.Native.Nat.{ℕ, suc, ◌-◌}
use native.Mathlib.Omega.{arith}
use lib.ListN.{length, take, drop}
use Rattle.sweep.specs.Lists.{Pair, lesser_first, last_of, adjacent_from, adjacent}
use Rattle.full_steps.specs.InPlace.{joint_of, joint}

-- the adjacent pairs of two joined lists: those of the first, the joint, those of the second
from_append : (i : ℕ) (l m : List ℕ) → adjacent_from i (l ++ m) ≡ adjacent_from i l ++ (joint (i ∷ l) m ++ adjacent m)
unfolding adjacent adjacent_from joint joint_of last_of
from_append i [] [] = refl
from_append i [] (j ∷ m) = refl
from_append i (k ∷ l) m = ap (λ (z : List Pair). lesser_first i k ∷ z) (from_append k l m)

pub adjacent_append : (l m : List ℕ) → adjacent (l ++ m) ≡ adjacent l ++ (joint l m ++ adjacent m)
unfolding adjacent joint joint_of last_of
adjacent_append [] m = refl
adjacent_append (i ∷ l) m = from_append i l m

-- of what is kept for each adjacent pair of two joined lists: the first list's part, and the second's
module _ {A : Type 0} (f : Pair → A) where
  from_take : (i : ℕ) (l m : List ℕ) → take (length l) (map f (adjacent_from i (l ++ m))) ≡ map f (adjacent_from i l)
  unfolding adjacent_from
  from_take i [] m = refl
  from_take i (k ∷ l) m = ap (λ (z : List A). f (lesser_first i k) ∷ z) (from_take k l m)

  pub adjacent_take : (l m : List ℕ) → take (length l - 1) (map f (adjacent (l ++ m))) ≡ map f (adjacent l)
  unfolding adjacent
  adjacent_take [] m = refl
  adjacent_take (i ∷ l) m = let e : suc (length l) - 1 ≡ length l = omega arith in rw e (from_take i l m)

  from_drop : (i : ℕ) (l m : List ℕ) → drop (suc (length l)) (map f (adjacent_from i (l ++ m))) ≡ map f (adjacent m)
  unfolding adjacent adjacent_from
  from_drop i [] [] = refl
  from_drop i [] (j ∷ m) = refl
  from_drop i (k ∷ l) m = from_drop k l m

  pub adjacent_drop : (l m : List ℕ) → drop (length l) (map f (adjacent (l ++ m))) ≡ map f (adjacent m)
  unfolding adjacent
  adjacent_drop [] m = refl
  adjacent_drop (i ∷ l) m = from_drop i l m

-- what is kept is the same where it is so for each member
pub map_same : {A : Type 0} (f g : Pair → A) (l : List Pair) → ((q : Pair) → In q l → f q ≡ g q) → map f l ≡ map g l
map_same f g [] h = refl
map_same f g (q ∷ l) h = λ i. h q (here refl) i ∷ map_same f g l (λ r m. h r (there m)) i
