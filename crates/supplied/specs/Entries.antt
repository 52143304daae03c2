-- The entries of a supplier's list of pairs, for any test of two numbers: the faults, and the pairs left out.
use Rattle.std.specs.Prelude.{Bool, false, cond, not, ◌&&◌, ◌||◌, List, [], ◌∷◌, ◌++◌, ℕ, zero, suc, ◌+◌, ◌*◌, ◌/◌, eqb, ltb, leb, length, get_or, Option, None, Some}
use Rattle.naive.specs.Pairs.{Pair, rows}
use Rattle.supplied.specs.declared.EntryFault.{EntryFault}
use Rattle.supplied.specs.declared.EntryFault.TheVariants.{NoPiece, Itself, Apart, Repeated}

-- "in either number order": of two numbers the greater and the lesser
unfoldable pub greater : ℕ → ℕ → ℕ
greater x y = cond (ltb x y) y x

unfoldable pub lesser : ℕ → ℕ → ℕ
lesser x y = cond (ltb x y) x y

-- the first of a list
abbrev pub first_of : {A : Type 0} → List A → Option A
first_of [] = None
first_of (x ∷ xs) = Some x

-- the faults of an entry, 1 to 4 in the rule's order
abbrev pub number_of : EntryFault → ℕ
number_of NoPiece = 1
number_of Itself = 2
number_of Apart = 3
number_of Repeated = 4

-- an entry at fault, and its fault
abbrev pub Faulty : Type 0
Faulty = ℕ × EntryFault

-- entry i with its fault, where it has one
abbrev pub told_at : ℕ → Option EntryFault → List Faulty
told_at i None = []
told_at i (Some fault) = (i, fault) ∷ []

module _ (bytes : List ℕ) where
  -- two bytes an entry, "entries counted from 0"
  abbrev pub one : ℕ → ℕ
  one i = get_or bytes (2 * i) 0

  abbrev pub other : ℕ → ℕ
  other i = get_or bytes (2 * i + 1) 0

  -- the greater number of entry i, and the lesser
  abbrev pub top : ℕ → ℕ
  top i = greater (one i) (other i)

  abbrev pub low : ℕ → ℕ
  low i = lesser (one i) (other i)

  -- one of the first i entries names the pair of a and b, a the greater
  unfoldable pub named : ℕ → ℕ → ℕ → Bool
  named zero a b = false
  named (suc i) a b = named i a b || (eqb (top i) a && eqb (low i) b)

  module _ (meets : ℕ → ℕ → Bool) (n : ℕ) where
    -- "one of its numbers is not a piece's, both are equal, its pair does not meet, or it repeats the pair of an earlier
    -- entry": the first that holds
    unfoldable pub fault_of : Bool → ℕ → ℕ → Option EntryFault
    fault_of repeats a b =
        cond (leb n a) (Some NoPiece) (cond (eqb a b) (Some Itself) (cond (meets a b) (cond repeats (Some Repeated) None) (Some Apart)))

    unfoldable pub fault_at : ℕ → Option EntryFault
    fault_at i = fault_of (named i (top i) (low i)) (top i) (low i)

    -- those of the first i entries that are at fault, in order, each with its fault
    unfoldable pub faults : ℕ → List Faulty
    faults zero = []
    faults (suc i) = faults i ++ told_at i (fault_at i)

    -- the pairs that meet and are not named, "in all-pairs order"
    unfoldable pub missing : List Pair
    missing = rows (λ a b. not (named (length bytes / 2) a b) && meets a b) n
