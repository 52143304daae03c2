-- The words on lists in which the sweep is told.
use Rattle.std.specs.Prelude.{Bool, false, cond, ◌&&◌, ◌||◌, List, [], ◌∷◌, ◌++◌, map, ℕ, zero, suc, ltb, eqb}
use Rattle.std.proofs.Math.Option.{Option, none, some}
pub use Rattle.charts.specs.PairList.{Pair, Pairwise}

-- 0, 1, .., n - 1
unfoldable pub upto : ℕ → List ℕ
upto zero = []
upto (suc n) = upto n ++ (n ∷ [])

module _ {A : Type 0} where
  -- the members that pass a test, in their order
  unfoldable pub keep : (A → Bool) → List A → List A
  keep f [] = []
  keep f (x ∷ l) = cond (f x) (x ∷ keep f l) (keep f l)

  -- whether some member passes
  unfoldable pub any : (A → Bool) → List A → Bool
  any f [] = false
  any f (x ∷ l) = f x || any f l

  -- x put in front of the first member that it comes before
  unfoldable pub place : (A → A → Bool) → A → List A → List A
  place before x [] = x ∷ []
  place before x (y ∷ l) = cond (before x y) (x ∷ y ∷ l) (y ∷ place before x l)

  -- the members of the second list, one by one, put into the first
  unfoldable pub sort_into : (A → A → Bool) → List A → List A → List A
  sort_into before done [] = done
  sort_into before done (x ∷ l) = sort_into before (place before x done) l

  unfoldable pub sort : (A → A → Bool) → List A → List A
  sort before l = sort_into before [] l

  unfoldable pub last_of : List A → Option A
  last_of [] = none
  last_of (x ∷ []) = some x
  last_of (x ∷ y ∷ l) = last_of (y ∷ l)

unfoldable pub same_pair : Pair → Pair → Bool
same_pair q r = eqb q.0 r.0 && eqb q.1 r.1

unfoldable pub among : Pair → List Pair → Bool
among q l = any (same_pair q) l

-- every two members, the earlier one first, in the order of the earlier, then of the later
unfoldable pub pairs : List ℕ → List Pair
pairs [] = []
pairs (i ∷ l) = map (λ j. (i, j)) l ++ pairs l

-- the lesser number first
unfoldable pub lesser_first : ℕ → ℕ → Pair
lesser_first i j = cond (ltb i j) (i, j) (j, i)

-- the adjacent pairs of i ∷ l, from the front
unfoldable pub adjacent_from : ℕ → List ℕ → List Pair
adjacent_from i [] = []
adjacent_from i (j ∷ l) = lesser_first i j ∷ adjacent_from j l

unfoldable pub adjacent : List ℕ → List Pair
adjacent [] = []
adjacent (i ∷ l) = adjacent_from i l
