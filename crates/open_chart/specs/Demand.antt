-- What is promised of a chart that stays open, over the numbers that stand in its memory and the common points of pieces.
use Rattle.std.specs.Prelude.{◌≡◌, ◌↔◌, ◌≢◌, List, ℕ, suc, ◌<◌, ◌≤◌, ℤ, pos, length, replicate}
use mathlib.Core.List.{Memᴰ as In}
use Rattle.line_segment.specs.Piece.{piece_of}
use Rattle.line_segment.specs.Demand.{Meet}
use Rattle.charts.specs.Verdict.{Verdict}
use Rattle.charts.specs.Verdict.{Accepted, Refused}
use Rattle.charts.specs.Answer.{room}
use Rattle.charts.specs.Chart.{number_at}
use Rattle.charts.specs.Demand.{Fault, FaultOf}
use Rattle.charts.specs.Piece.{piece_at}
use Rattle.naive.specs.Demand.{Before, Pairwise}
use Rattle.open_chart.specs.Memory.{places, memory, five, used_below}
use Rattle.open_chart.specs.Changes.{adding, dropping, after_adding, after_dropping, after_emptying}
use Rattle.open_chart.specs.Listing.{open_pairs, listing_on}
use Rattle.open_chart.specs.Model.{free, contents, Change, changed_all, after, after_all, afresh}

module _ (chart : List ℤ) where
  -- a used place: its numbers meet none of the rows 4, 5 and 6 of the table
  abbrev pub Used : ℕ → Type 0
  Used i = (i < places) × FaultOf chart i 0

  -- "the lowest free number"
  pub record LowestFree (i : ℕ) : Type 0 where
    pub known : i < places
    pub unused : ¬ Used i
    pub below : (j : ℕ) → j < i → Used j

  -- ---- the verdict that is due to a piece that is to be added
  pub data AddDue (kind x1 y1 x2 y2 : ℤ) : Verdict → Type 0 where
    -- "8 first, where fewer than 1,000 numbers are lent"
    eight : length chart < memory → AddDue kind x1 y1 x2 y2 (Refused 8 0)
    -- "4, 5, 6 for the piece"
    faulted : memory ≤ length chart → (k : ℕ) → Fault kind x1 y1 x2 y2 (suc k) → AddDue kind x1 y1 x2 y2 (Refused (suc k) 0)
    -- "then 17 only when all 200 places are used"
    full : memory ≤ length chart → Fault kind x1 y1 x2 y2 0 → ((i : ℕ) → i < places → Used i) → AddDue kind x1 y1 x2 y2 (Refused 17 0)
    at : memory ≤ length chart → Fault kind x1 y1 x2 y2 0 → (i : ℕ) → LowestFree i → AddDue kind x1 y1 x2 y2 (Accepted i)

  -- ---- and to a number that is to be dropped
  pub data DropDue (i : ℕ) : Verdict → Type 0 where
    eight : length chart < memory → DropDue i (Refused 8 0)
    -- "18 for dropping a free or unknown number"
    eighteen : memory ≤ length chart → ¬ Used i → DropDue i (Refused 18 0)
    at : memory ≤ length chart → Used i → DropDue i (Accepted i)

  -- ---- and to a listing, of n used places
  pub data ListDue (lent : ℕ) : Verdict → Type 0 where
    eight : length chart < memory → ListDue lent (Refused 8 0)
    -- "8 for a listing lent under n(n-1) bytes, n places used"
    tight : memory ≤ length chart → lent < room (length (used_below chart places)) → ListDue lent (Refused 8 0)
    roomy : memory ≤ length chart → room (length (used_below chart places)) ≤ lent → ListDue lent (Accepted (length (used_below chart places)))

abbrev pub AddsExactly : Type 0
AddsExactly = (chart : List ℤ) (kind x1 y1 x2 y2 : ℤ) (v : Verdict) → (adding chart (five kind x1 y1 x2 y2) ≡ v) ↔ AddDue chart kind x1 y1 x2 y2 v

abbrev pub DropsExactly : Type 0
DropsExactly = (chart : List ℤ) (i : ℕ) (v : Verdict) → (dropping chart i ≡ v) ↔ DropDue chart i v

abbrev pub ListsWhenRoomy : Type 0
ListsWhenRoomy = (chart : List ℤ) (lent : ℕ) (v : Verdict) → (listing_on chart lent ≡ v) ↔ ListDue chart lent v

-- the places counted are the used ones
abbrev pub CountsUsed : Type 0
CountsUsed = (chart : List ℤ) (i : ℕ) → In i (used_below chart places) ↔ Used chart i

-- the piece of a used place is made of its five numbers as they stand
abbrev pub PiecesAsGiven : Type 0
PiecesAsGiven =
    (chart : List ℤ) (i : ℕ) → Used chart i
    → (kind : ℕ) × (number_at chart i 0 ≡ pos kind)
    × (piece_at chart i ≡ piece_of kind (number_at chart i 1) (number_at chart i 2) (number_at chart i 3) (number_at chart i 4))

-- ---- what a change leaves
-- the memory keeps its length
abbrev pub KeepsLength : Type 0
KeepsLength = (chart : List ℤ) (c : Change) → length (after chart c) ≡ length chart

-- "A refused change alters nothing."
abbrev pub RefusedAltersNothing : Type 0
RefusedAltersNothing =
    (chart : List ℤ) (k : ℕ)
    → ((kind x1 y1 x2 y2 : ℤ) → adding chart (five kind x1 y1 x2 y2) ≡ Refused k 0 → after_adding chart (five kind x1 y1 x2 y2) ≡ chart)
    × ((i : ℕ) → dropping chart i ≡ Refused k 0 → after_dropping chart i ≡ chart)

-- a change alters one place and no other
abbrev pub AltersOnePlace : Type 0
AltersOnePlace =
    (chart : List ℤ) (i j k : ℕ) → j ≢ i → k < 5
    → ((kind x1 y1 x2 y2 : ℤ) → adding chart (five kind x1 y1 x2 y2) ≡ Accepted i → number_at (after_adding chart (five kind x1 y1 x2 y2)) j k ≡ number_at chart j k)
    × (dropping chart i ≡ Accepted i → number_at (after_dropping chart i) j k ≡ number_at chart j k)

-- "a dropped number is used again": a piece added after a drop has its place, at the dropped number or below, and at that
-- number where every place below it is used
abbrev pub AddsAfterDropping : Type 0
AddsAfterDropping =
    (chart : List ℤ) (i : ℕ) (kind x1 y1 x2 y2 : ℤ) → dropping chart i ≡ Accepted i → Fault kind x1 y1 x2 y2 0
    → (j : ℕ) × (adding (after_dropping chart i) (five kind x1 y1 x2 y2) ≡ Accepted j) × (j ≤ i) × (((m : ℕ) → m < i → Used chart m) → j ≡ i)

-- ---- any sequence of changes
abbrev pub BeginsEmpty : Type 0
BeginsEmpty = (chart : List ℤ) → memory ≤ length chart → contents (after_emptying chart) ≡ replicate places free

-- the places hold what the changes, one after the other, have left there
abbrev pub StaysTrue : Type 0
StaysTrue = (chart : List ℤ) (changes : List Change) → memory ≤ length chart → contents (after_all chart changes) ≡ changed_all (contents chart) changes

-- "After any sequence of accepted changes the all-pairs list equals that worked out afresh over the used places, under
-- their own numbers.": of refused ones in between too, which change nothing on either side
abbrev pub ListsAfresh : Type 0
ListsAfresh = (chart : List ℤ) (changes : List Change) → memory ≤ length chart → open_pairs (after_all chart changes) ≡ afresh (changed_all (contents chart) changes)

-- ---- the list itself
abbrev pub ListsExactly : Type 0
ListsExactly =
    (chart : List ℤ) (a b : ℕ)
    → In (a, b) (open_pairs chart) ↔ ((b < a) × Used chart a × Used chart b × Meet (piece_at chart a) (piece_at chart b))

abbrev pub ListsInOrder : Type 0
ListsInOrder = (chart : List ℤ) → Pairwise Before (open_pairs chart)

abbrev pub ListsOnce : Type 0
ListsOnce = (chart : List ℤ) → Pairwise (λ p q. p ≢ q) (open_pairs chart)
