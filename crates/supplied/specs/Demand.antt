-- What is promised of the check of a supplier's list, over the bytes as they are given and the common points of pieces.
use Rattle.std.specs.Prelude.{◌≡◌, ◌⊎◌, ◌↔◌, ◌≢◌, List, ◌∷◌, ◌++◌, ℕ, ◌/◌, ◌%◌, ◌<◌, ◌≤◌, ℤ, length}
use mathlib.Core.List.{Memᴰ as In}
use Rattle.line_segment.specs.Demand.{Meet}
use Rattle.charts.specs.Chart.{verdict_of}
use Rattle.charts.specs.Piece.{piece_at}
use Rattle.charts.specs.Verdict.{Accepted as Going, Refused as Stopped}
use Rattle.naive.specs.AllPairs.{pairs_of}
use Rattle.naive.specs.Demand.{Before, Pairwise}
use Rattle.naive.specs.Pairs.{Pair, bytes}
use Rattle.supplied.specs.declared.Checked.{Checked}
use Rattle.supplied.specs.declared.Checked.TheVariants.{Accepted, Fault, Missing, Refused}
use Rattle.supplied.specs.Entries.{one, other}
use Rattle.supplied.specs.Checking.{checked_of}

-- ---- the entries, over the pieces of a list of which the first n are a chart
module _ (list : List ℤ) (n : ℕ) (bytes : List ℕ) where
  -- pieces a and b meet, as the list of all pairs has it
  abbrev pub Meets : ℕ → ℕ → Type 0
  Meets a b = Meet (piece_at list a) (piece_at list b)

  -- entry i names the pair of a and b, "in either number order"
  abbrev pub Names : ℕ → ℕ → ℕ → Type 0
  Names i a b = ((one bytes i ≡ a) × (other bytes i ≡ b)) ⊎ ((one bytes i ≡ b) × (other bytes i ≡ a))

  -- one of the first i entries does
  abbrev pub Named : ℕ → ℕ → ℕ → Type 0
  Named i a b = (j : ℕ) × (j < i) × Names j a b

  -- "An entry is at fault when one of its numbers is not a piece's, both are equal, its pair does not meet, or it repeats
  -- the pair of an earlier entry": 1 to 4, the first of them that holds
  pub data AtFault (i : ℕ) : ℕ → Type 0 where
    no_piece : (n ≤ one bytes i) ⊎ (n ≤ other bytes i) → AtFault i 1
    itself : one bytes i < n → one bytes i ≡ other bytes i → AtFault i 2
    apart : one bytes i < n → other bytes i < n → one bytes i ≢ other bytes i → ¬ Meets (one bytes i) (other bytes i) → AtFault i 3
    repeated : one bytes i < n → other bytes i < n → one bytes i ≢ other bytes i → Meets (one bytes i) (other bytes i) → Named i (one bytes i) (other bytes i) → AtFault i 4

  pub record Good (i : ℕ) : Type 0 where
    pub first_piece : one bytes i < n
    pub second_piece : other bytes i < n
    pub two : one bytes i ≢ other bytes i
    pub meeting : Meets (one bytes i) (other bytes i)
    pub new : ¬ Named i (one bytes i) (other bytes i)

  abbrev pub GoodBelow : ℕ → Type 0
  GoodBelow m = (i : ℕ) → i < m → Good i

  -- a pair that meets, greater number first, and that no entry names
  pub record Lacks (a b : ℕ) : Type 0 where
    pub greater : b < a
    pub piece : a < n
    pub meeting : Meets a b
    pub unnamed : ¬ Named (length bytes / 2) a b

  -- what is due to be said of the list
  pub data Due : Checked → Type 0 where
    -- "name the first entry at fault, entries counted from 0"
    fault : (i k : ℕ) → i < length bytes / 2 → GoodBelow i → AtFault i k → Due (Fault i k)
    -- "or, when all entries are good, the first missing pair in all-pairs order"
    lacks : (a b : ℕ) → GoodBelow (length bytes / 2) → Lacks a b → ((c d : ℕ) → Before (c, d) (a, b) → ¬ Lacks c d) → Due (Missing a b)
    -- "accept exactly when it names each meeting pair of demand 2 once"
    accepted : GoodBelow (length bytes / 2) → ((a b : ℕ) → ¬ Lacks a b) → Due Accepted

-- ---- the promises
-- "list faults as before; then 16 for an odd number of bytes"
pub record Refuses (list : List ℤ) (bytes : List ℕ) : Type 0 where
  pub list_fault : (k place : ℕ) → verdict_of list ≡ Stopped k place → checked_of list bytes ≡ Refused k place
  pub odd : (n : ℕ) → verdict_of list ≡ Going n → ¬ (length bytes % 2 ≡ 0) → checked_of list bytes ≡ Refused 16 0

abbrev pub RefusesInOrder : Type 0
RefusesInOrder = (list : List ℤ) (bytes : List ℕ) → Refuses list bytes

-- what is said is what is due
abbrev pub SaysWhatIsDue : Type 0
SaysWhatIsDue =
    (list : List ℤ) (n : ℕ) (bytes : List ℕ) → verdict_of list ≡ Going n → length bytes % 2 ≡ 0 → Due list n bytes (checked_of list bytes)

-- two things are never due to one list
abbrev pub OneIsDue : Type 0
OneIsDue = (list : List ℤ) (n : ℕ) (bytes : List ℕ) (r s : Checked) → Due list n bytes r → Due list n bytes s → r ≡ s

-- accepted exactly when each entry names a meeting pair, and each meeting pair is named by one entry
pub record NamesOnce (list : List ℤ) (n : ℕ) (bytes : List ℕ) : Type 0 where
  pub only_meeting : (i : ℕ) → i < length bytes / 2 → (a b : ℕ) → Names list n bytes i a b → (a < n) × (b < n) × (a ≢ b) × Meets list n bytes a b
  pub each : (a b : ℕ) → b < a → a < n → Meets list n bytes a b → Named list n bytes (length bytes / 2) a b
  pub once : (i j a b : ℕ) → i < j → j < length bytes / 2 → Names list n bytes i a b → ¬ Names list n bytes j a b

abbrev pub AcceptsExactly : Type 0
AcceptsExactly =
    (list : List ℤ) (n : ℕ) (bytes : List ℕ) → verdict_of list ≡ Going n → length bytes % 2 ≡ 0
    → (checked_of list bytes ≡ Accepted) ↔ NamesOnce list n bytes

-- ---- lists of pairs, written out as bytes
-- a pair in the other number order
abbrev pub turn : Pair → Pair
turn p = (p.1, p.0)

-- a list that has each meeting pair once, in either number order, and nothing else
pub record Lists (list : List ℤ) (n : ℕ) (pairs : List Pair) : Type 0 where
  pub only : (p : Pair) → In p pairs → (p.0 < n) × (p.1 < n) × (p.0 ≢ p.1) × Meet (piece_at list p.0) (piece_at list p.1)
  pub each : (a b : ℕ) → b < a → a < n → Meet (piece_at list a) (piece_at list b) → In (a, b) pairs ⊎ In (b, a) pairs
  pub once : Pairwise (λ p q. (p ≢ q) × (turn p ≢ q)) pairs

abbrev pub AcceptsLists : Type 0
AcceptsLists = (list : List ℤ) (n : ℕ) (pairs : List Pair) → verdict_of list ≡ Going n → (checked_of list (bytes pairs) ≡ Accepted) ↔ Lists list n pairs

-- the list of all pairs is accepted
abbrev pub AcceptsAllPairs : Type 0
AcceptsAllPairs = (list : List ℤ) (n : ℕ) → verdict_of list ≡ Going n → checked_of list (bytes (pairs_of list n)) ≡ Accepted

-- a list of the meeting pairs that has each once, lesser number first as a sweep has it, is accepted
abbrev pub AcceptsLesserFirst : Type 0
AcceptsLesserFirst =
    (list : List ℤ) (n : ℕ) (pairs : List Pair) → verdict_of list ≡ Going n
    → ((a b : ℕ) → In (a, b) pairs ↔ ((a < b) × (b < n) × Meet (piece_at list a) (piece_at list b)))
    → Pairwise (λ p q. p ≢ q) pairs → checked_of list (bytes pairs) ≡ Accepted

-- an accepted list is no longer accepted with an entry taken out, ..
abbrev pub RefusesOneLess : Type 0
RefusesOneLess =
    (list : List ℤ) (n : ℕ) (s t : List Pair) (p : Pair) → verdict_of list ≡ Going n
    → checked_of list (bytes (s ++ (p ∷ t))) ≡ Accepted → ¬ (checked_of list (bytes (s ++ t)) ≡ Accepted)

-- .. replaced by another pair, ..
abbrev pub RefusesAnother : Type 0
RefusesAnother =
    (list : List ℤ) (n : ℕ) (s t : List Pair) (p q : Pair) → verdict_of list ≡ Going n → q ≢ p → q ≢ turn p
    → checked_of list (bytes (s ++ (p ∷ t))) ≡ Accepted → ¬ (checked_of list (bytes (s ++ (q ∷ t))) ≡ Accepted)

-- .. and no list is with a pair named twice
abbrev pub RefusesTwice : Type 0
RefusesTwice =
    (list : List ℤ) (n : ℕ) (s t : List Pair) (p : Pair) → verdict_of list ≡ Going n → In p (s ++ t) ⊎ In (turn p) (s ++ t)
    → ¬ (checked_of list (bytes (s ++ (p ∷ t))) ≡ Accepted)
