-- What is promised of an outline's refusals: "given exactly when". A number is given if and only if its row holds and no
-- earlier one does; the rows are stated here over whole numbers, apart from the tests that `verdict_of` makes.
use Rattle.std.specs.Prelude.{◌≡◌, ◌⊎◌, ◌↔◌, List, ℕ, ◌*◌, ◌<◌, ◌≤◌, ℤ, pos, length, ◌<ℤ◌}
use Rattle.line_segment.specs.Piece.{piece_of, HasLength}
use Rattle.charts.specs.Piece.{coordinate_of}
use Rattle.charts.specs.Demand.{Off}
use Rattle.charts.specs.Verdict.{Verdict}
use Rattle.charts.specs.Verdict.{Accepted, Refused}
use Rattle.outline.specs.Outline.{fewest, most, number_at, next_of, side_of, verdict_of}

module _ (outline : List ℤ) where
  -- "closed outlines of 3 to 64 corners", two numbers each
  pub record Corners (n : ℕ) : Type 0 where
    pub numbers : length outline ≡ 2 * n
    pub enough : fewest ≤ n
    pub not_more : n ≤ most

  -- "corner out of range"
  abbrev pub OffCorner : ℕ → Type 0
  OffCorner i = Off (number_at outline i 0) ⊎ Off (number_at outline i 1)

  -- "corner equal to its next (the first follows the last)"
  abbrev pub SameCorner : ℕ → ℕ → Type 0
  SameCorner n i =
      (number_at outline i 0 ≡ number_at outline (next_of n i) 0) × (number_at outline i 1 ≡ number_at outline (next_of n i) 1)

  -- none below n
  abbrev pub NoneBelow : ℕ → (ℕ → Type 0) → Type 0
  NoneBelow n P = (i : ℕ) → i < n → ¬ P i

  module _ (x y : ℤ) where
    -- out of range, or beyond where "x stops"
    abbrev pub OffPeak : Type 0
    OffPeak = (Off x ⊎ Off y) ⊎ (pos 32766 <ℤ x)

    -- the verdict that is due to the outline and the peak
    pub data Due : Verdict → Type 0 where
      -- "15 for an odd count of numbers or a corner count outside 3 to 64"
      fifteen : ((n : ℕ) → ¬ Corners n) → Due (Refused 15 0)
      -- "then 5 at the first corner out of range"
      off : (n i : ℕ) → Corners n → i < n → NoneBelow i OffCorner → OffCorner i → Due (Refused 5 i)
      -- "then 6 at the first corner equal to its next"
      same : (n i : ℕ) → Corners n → NoneBelow n OffCorner → i < n → NoneBelow i (SameCorner n) → SameCorner n i → Due (Refused 6 i)
      -- "then 5 for the peak"
      peak : (n : ℕ) → Corners n → NoneBelow n OffCorner → NoneBelow n (SameCorner n) → OffPeak → Due (Refused 5 0)
      done : (n : ℕ) → Corners n → NoneBelow n OffCorner → NoneBelow n (SameCorner n) → ¬ OffPeak → Due (Accepted n)

abbrev pub RefusesExactly : Type 0
RefusesExactly = (outline : List ℤ) (x y : ℤ) (v : Verdict) → (verdict_of outline x y ≡ v) ↔ Due outline x y v

-- ---- the sides of an accepted outline
-- side i is made of the numbers as they stand, from corner i to its next
abbrev pub SidesAsGiven : Type 0
SidesAsGiven =
    (outline : List ℤ) (x y : ℤ) (n i : ℕ) → verdict_of outline x y ≡ Accepted n → i < n
    → side_of outline n i ≡ piece_of 3 (number_at outline i 0) (number_at outline i 1) (number_at outline (next_of n i) 0) (number_at outline (next_of n i) 1)

abbrev pub SidesHaveLength : Type 0
SidesHaveLength = (outline : List ℤ) (x y : ℤ) (n i : ℕ) → verdict_of outline x y ≡ Accepted n → i < n → HasLength (side_of outline n i)

-- the peak is the point of its two numbers, and there is one to the right of it
abbrev pub PeakAsGiven : Type 0
PeakAsGiven =
    (outline : List ℤ) (x y : ℤ) (n : ℕ) → verdict_of outline x y ≡ Accepted n
    → (coordinate_of x ≡ x) × (coordinate_of y ≡ y) × (x <ℤ pos 32767)
