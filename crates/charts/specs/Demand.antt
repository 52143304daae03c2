-- What is promised of refusals: "given exactly when". A number is given if and only if its row of the table holds and no
-- earlier one does; the rows are stated here over whole numbers, apart from the tests that `verdict_of` makes.
use Rattle.std.specs.Prelude.{◌≡◌, ◌⊎◌, ◌↔◌, List, ℕ, suc, ◌*◌, ◌<◌, ◌≤◌, ℤ, pos, neg_ℤ, length, ◌<ℤ◌}
use Rattle.line_segment.specs.Piece.{piece_of, HasLength}
use Rattle.charts.specs.Fault.{range, fault_of}
use Rattle.charts.specs.Chart.{most, number_at, verdict_of}
use Rattle.charts.specs.Piece.{piece_at}
use Rattle.charts.specs.Answer.{room, then_room, listing_of}
use Rattle.charts.specs.Pair.{pair_verdict_of}
use Rattle.charts.specs.Verdict.{Verdict}
use Rattle.charts.specs.Verdict.{Accepted, Refused}

abbrev pub Outside : ℤ → ℤ → ℤ → Type 0
Outside low high v = (v <ℤ low) ⊎ (high <ℤ v)

abbrev pub Off : ℤ → Type 0
Off v = Outside (neg_ℤ range) range v

-- ---- one piece
module _ (kind x1 y1 x2 y2 : ℤ) where
  -- "4: kind outside 0 to 3"
  abbrev pub Row4 : Type 0
  Row4 = Outside (pos 0) (pos 3) kind

  -- "5: coordinate out of range", of either end
  abbrev pub Row5 : Type 0
  Row5 = (Off x1 ⊎ Off y1) ⊎ (Off x2 ⊎ Off y2)

  -- "6: both ends of a piece equal"
  abbrev pub Row6 : Type 0
  Row6 = (x1 ≡ x2) × (y1 ≡ y2)

  -- the fault that is due to the piece, 0 where no row holds
  pub data Fault : ℕ → Type 0 where
    none : ¬ Row4 → ¬ Row5 → ¬ Row6 → Fault 0
    four : Row4 → Fault 4
    five : ¬ Row4 → Row5 → Fault 5
    six : ¬ Row4 → ¬ Row5 → Row6 → Fault 6

  abbrev pub FaultExactly : Type 0
  FaultExactly = (k : ℕ) → (fault_of kind x1 y1 x2 y2 ≡ k) ↔ Fault k

-- ---- the list
module _ (list : List ℤ) where
  -- the fault due to piece i
  abbrev pub FaultOf : ℕ → ℕ → Type 0
  FaultOf i = Fault (number_at list i 0) (number_at list i 1) (number_at list i 2) (number_at list i 3) (number_at list i 4)

  abbrev pub Sound : ℕ → Type 0
  Sound n = (i : ℕ) → i < n → FaultOf i 0

  -- the verdict that is due to the list
  pub data Due : Verdict → Type 0 where
    -- "9: a list's length is no multiple of five"
    nine : ((n : ℕ) → ¬ (length list ≡ 5 * n)) → Due (Refused 9 0)
    -- "3: count above 200"
    three : (n : ℕ) → length list ≡ 5 * n → most < n → Due (Refused 3 0)
    -- "piece by piece 4, 5 (either end), 6"; "the place is the piece's number"
    piece : (n : ℕ) → length list ≡ 5 * n → n ≤ most → (i k : ℕ) → i < n → Sound i → FaultOf i (suc k) → Due (Refused (suc k) i)
    done : (n : ℕ) → length list ≡ 5 * n → n ≤ most → Sound n → Due (Accepted n)

  -- "then 8": the verdict that is due where so much room is lent, and a chart of n pieces needs `need n`
  pub data RoomDue (need : ℕ → ℕ) (lent : ℕ) : Verdict → Type 0 where
    refused : (k place : ℕ) → Due (Refused k place) → RoomDue need lent (Refused k place)
    -- "8: lent room too small"
    eight : (n : ℕ) → Due (Accepted n) → lent < need n → RoomDue need lent (Refused 8 0)
    roomy : (n : ℕ) → Due (Accepted n) → need n ≤ lent → RoomDue need lent (Accepted n)

  -- where the pairs go into so many lent bytes
  abbrev pub ListingDue : ℕ → Verdict → Type 0
  ListingDue lent v = RoomDue room lent v

  -- "9: .. in a pair call, [the length] is not ten"
  pub data PairDue : Verdict → Type 0 where
    not_ten : ¬ (length list ≡ 10) → PairDue (Refused 9 0)
    ten : length list ≡ 10 → (v : Verdict) → Due v → PairDue v

abbrev pub RefusesExactly : Type 0
RefusesExactly = (list : List ℤ) (v : Verdict) → (verdict_of list ≡ v) ↔ Due list v

abbrev pub RoomRefusesExactly : Type 0
RoomRefusesExactly = (list : List ℤ) (need : ℕ → ℕ) (lent : ℕ) (v : Verdict) → (then_room need lent (verdict_of list) ≡ v) ↔ RoomDue list need lent v

abbrev pub ListingRefusesExactly : Type 0
ListingRefusesExactly = (list : List ℤ) (lent : ℕ) (v : Verdict) → (listing_of list lent ≡ v) ↔ ListingDue list lent v

abbrev pub PairRefusesExactly : Type 0
PairRefusesExactly = (list : List ℤ) (v : Verdict) → (pair_verdict_of list ≡ v) ↔ PairDue list v

-- ---- the pieces of an accepted list
-- "A piece is five whole numbers: kind, x1, y1, x2, y2": piece i is made of the numbers as they stand
abbrev pub PiecesAsGiven : Type 0
PiecesAsGiven =
    (list : List ℤ) (n i : ℕ) → verdict_of list ≡ Accepted n → i < n
    → (kind : ℕ) × (number_at list i 0 ≡ pos kind)
    × (piece_at list i ≡ piece_of kind (number_at list i 1) (number_at list i 2) (number_at list i 3) (number_at list i 4))

-- "A piece of no length is refused"
abbrev pub PiecesHaveLength : Type 0
PiecesHaveLength = (list : List ℤ) (n i : ℕ) → verdict_of list ≡ Accepted n → i < n → HasLength (piece_at list i)
