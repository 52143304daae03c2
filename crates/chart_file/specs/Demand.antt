-- What is promised of a chart file. The rows of the table of refusals (docs/CHART.md) are stated here over the bytes
-- themselves, apart from the tests that the reading makes: a number is given if and only if its row holds.
use Rattle.std.specs.Prelude.{◌≡◌, ◌↔◌, List, [], ◌∷◌, ◌++◌, ℕ, zero, suc, ◌+◌, ◌*◌, ◌^◌, ◌/◌, ◌≤◌, ◌<◌, ℤ, pos, neg_ℤ, ◌*ℤ◌, ◌-ℤ◌, ◌≤ℤ◌, ◌<ℤ◌, length, get_or, take, drop}
use Rattle.charts.specs.Chart.{most, number_at, verdict_of}
use Rattle.charts.specs.Demand.{Outside, Off}
use Rattle.charts.specs.Verdict.{Accepted}
use Rattle.chart_file.specs.Found.{Groups, Value, Fault}
use Rattle.chart_file.specs.Groups.{value, spelled, groups_at, Bytes, Canonical}
use Rattle.chart_file.specs.Coordinate.{stored, signed_of}
use Rattle.chart_file.specs.Format.{groups, bytes_of, bytes_from, count_of, file_of, longest}
use Rattle.chart_file.specs.Reading.{Reading, due, stopped, reading_of, lent_reading}

-- ---- groups of seven bits, at most k

-- the groups of a number stand for it as they should, and are at most k
abbrev pub Spells : Type 0
Spells = (k v : ℕ) → 0 < k → v < 128 ^ k → Canonical (spelled k v) × (value (spelled k v) ≡ v) × (length (spelled k v) ≤ k)

-- no other groups do
abbrev pub SpellsAlone : Type 0
SpellsAlone = (k : ℕ) (gs : List ℕ) → Canonical gs → length gs ≤ k → gs ≡ spelled k (value gs)

-- "in the fewest groups": no bytes whose seven bits make up the number are fewer
abbrev pub SpellsFewest : Type 0
SpellsFewest = (k : ℕ) (gs : List ℕ) → 0 < length gs → length (spelled k (value gs)) ≤ length gs

-- "high bit set" on the first n bytes
abbrev pub Marked : ℕ → List ℕ → Type 0
Marked n t = (i : ℕ) → i < n → 128 ≤ get_or t i 0

-- what stands in groups at a place from which on the bytes are t
pub data InGroups (k : ℕ) (t : List ℕ) (at : ℕ) : Groups → Type 0 where
  number : (v : ℕ) (rest : List ℕ) → v < 128 ^ k → t ≡ spelled k v ++ rest → InGroups k t at (Value v (at + length (spelled k v)))
  -- "1: the file ends inside a number or before one that is due"
  ends : (n : ℕ) → n < k → length t ≡ n → Marked n t → InGroups k t at (Fault 1)
  -- "2: the third group has its high bit set, or the last of several groups is zero"
  unended : Marked k t → InGroups k t at (Fault 2)
  padded : (n : ℕ) → 0 < n → n < k → n < length t → Marked n t → get_or t n 0 ≡ 0 → InGroups k t at (Fault 2)

abbrev pub GroupsExactly : Type 0
GroupsExactly = (k : ℕ) (s : List ℕ) (at : ℕ) → 0 < k → Bytes s → (g : Groups) → (groups_at k s at ≡ g) ↔ InGroups k (drop at s) at g

-- ---- coordinates

-- "stored as 2v when v is 0 or more, else as -2v - 1"
abbrev pub StoredAsSaid : Type 0
StoredAsSaid = (v : ℤ) → (pos 0 ≤ℤ v → pos (stored v) ≡ pos 2 *ℤ v) × (v <ℤ pos 0 → pos (stored v) ≡ neg_ℤ (pos 2 *ℤ v) -ℤ pos 1)

abbrev pub TurnedBack : Type 0
TurnedBack = ((v : ℤ) → signed_of (stored v) ≡ v) × ((u : ℕ) → stored (signed_of u) ≡ u)

-- ---- the file s

-- number c of a piece is in range
abbrev pub InRange : ℕ → ℤ → Type 0
InRange zero v = ¬ Outside (pos 0) (pos 3) v
InRange (suc c) v = ¬ Off v

-- why number c of a piece is refused at a place from which on the bytes are t
pub data Amiss (t : List ℕ) (at : ℕ) : ℕ → ℕ → Type 0 where
  kind_due : t ≡ [] → Amiss t at 0 1
  -- "4: kind outside 0 to 3"
  kind : (b : ℕ) (rest : List ℕ) → t ≡ b ∷ rest → Outside (pos 0) (pos 3) (pos b) → Amiss t at 0 4
  -- 1 and 2
  groups_fault : (c f : ℕ) → InGroups groups t at (Fault f) → Amiss t at (suc c) f
  -- "5: coordinate out of range"
  coordinate : (c : ℕ) (v : ℤ) (rest : List ℕ) → stored v < 128 ^ groups → t ≡ bytes_of (suc c) v ++ rest → Off v → Amiss t at (suc c) 5

-- the place after the count n and the numbers xs
abbrev pub place_of : ℕ → List ℤ → ℕ
place_of n xs = length (count_of n) + length (bytes_from 0 xs)

-- "6: both ends of a piece equal"
abbrev pub EndsEqual : List ℤ → ℕ → Type 0
EndsEqual xs p = (number_at xs p 1 ≡ number_at xs p 3) × (number_at xs p 2 ≡ number_at xs p 4)

-- the file begins with a count n and numbers xs in range, of which the first p pieces have length
pub record Begins (s : List ℕ) (n p : ℕ) (xs : List ℤ) (rest : List ℕ) : Type 0 where
  pub file : s ≡ count_of n ++ (bytes_from 0 xs ++ rest)
  pub few : n ≤ most
  pub ranges : (i c : ℕ) → c < 5 → 5 * i + c < length xs → InRange c (number_at xs i c)
  pub lengths : (i : ℕ) → i < p → ¬ EndsEqual xs i

-- the reading that is due to the file
pub data Due (s : List ℕ) : Reading → Type 0 where
  -- 1 and 2 of the count
  count_fault : (f : ℕ) → InGroups groups s 0 (Fault f) → Due s (stopped f 0)
  -- "3: count above 200"
  count : (n : ℕ) (rest : List ℕ) → n < 128 ^ groups → s ≡ count_of n ++ rest → most < n → Due s (stopped 3 0)
  -- 1, 2, 4 and 5 of number c of piece p: "The place is the offset at which the number starts"
  number : (n p c f : ℕ) (xs : List ℤ) (rest : List ℕ) → p < n → c < 5 → length xs ≡ 5 * p + c → Begins s n p xs rest
      → Amiss rest (place_of n xs) c f → Due s (stopped f (place_of n xs))
  -- 6 of piece p: "where the kind starts"
  piece : (n p : ℕ) (xs : List ℤ) (rest : List ℕ) → p < n → length xs ≡ 5 * p + 5 → Begins s n p xs rest
      → EndsEqual xs p → Due s (stopped 6 (place_of n (take (5 * p) xs)))
  -- "7: bytes after the last piece": "the first extra byte"
  extra : (n : ℕ) (xs : List ℤ) (b : ℕ) (rest : List ℕ) → length xs ≡ 5 * n → Begins s n n xs (b ∷ rest) → Due s (stopped 7 (place_of n xs))
  chart : (n : ℕ) (xs : List ℤ) → length xs ≡ 5 * n → Begins s n n xs [] → Due s (due xs (place_of n xs))

abbrev pub ReadsExactly : Type 0
ReadsExactly = (s : List ℕ) → Bytes s → (r : Reading) → (reading_of s ≡ r) ↔ Due s r

-- with so many numbers lent: "8 first (under 1,000 numbers lent)"
abbrev pub LentExactly : Type 0
LentExactly = (lent : ℕ) (s : List ℕ) → (lent < 5 * most → lent_reading lent s ≡ stopped 8 0) × (5 * most ≤ lent → lent_reading lent s ≡ reading_of s)

-- ---- files and charts

-- a file is accepted as the chart whose file it is, and that chart is one that the calls on lists accept
abbrev pub ReadsFile : Type 0
ReadsFile = (s : List ℕ) → Bytes s → (list : List ℤ) (at : ℕ) → reading_of s ≡ due list at → (s ≡ file_of list) × (verdict_of list ≡ Accepted (length list / 5))

-- the file of such a chart is accepted as that chart
abbrev pub FileReads : Type 0
FileReads = (list : List ℤ) (n : ℕ) → verdict_of list ≡ Accepted n → Bytes (file_of list) × (reading_of (file_of list) ≡ due list (length (file_of list)))

-- no other file reads as the same chart
abbrev pub ReadsOnce : Type 0
ReadsOnce = (s s' : List ℕ) → Bytes s → Bytes s' → (list : List ℤ) (at at' : ℕ) → reading_of s ≡ due list at → reading_of s' ≡ due list at' → s ≡ s'

-- "The longest file has 2,602 bytes."
abbrev pub NoLonger : Type 0
NoLonger = (s : List ℕ) → Bytes s → (list : List ℤ) (at : ℕ) → reading_of s ≡ due list at → length s ≤ longest

abbrev pub SomeAsLong : Type 0
SomeAsLong = (s : List ℕ) × Bytes s × (list : List ℤ) × (reading_of s ≡ due list longest) × (length s ≡ longest)
