-- What the sweep needs of geometry. The theorem is proved from this record; the record is supplied from integers.
use Rattle.std.specs.Prelude.{◌≡◌, ◌⊎◌, ◌≢◌, true, false, ℕ, ◌<◌}
use mathlib.Core.List.{Memᴰ as In}
use Rattle.sweep.specs.Chart.{crosses, overlaps, Chart}
use Rattle.sweep.specs.Sought.{occurring, later}

module _ (C : Chart) where
  open C use {Point, less, n, min, max, contains, test, crossing, before}

  -- an end or a crossing of the chart
  abbrev pub Occurs : Point → Type 0
  Occurs p = In p (occurring C)

  -- piece i has begun by p and reaches beyond it
  abbrev pub Under : Point → ℕ → Type 0
  Under p i = (i < n) × (less p (min i) ≡ false) × (less p (max i) ≡ true)

  -- i and j cross strictly between p and c
  abbrev pub CrossBetween : Point → Point → ℕ → ℕ → Type 0
  CrossBetween p c i j = (test i j ≡ crosses) × (less p (crossing i j) ≡ true) × (less (crossing i j) c ≡ true)

  -- the points that occur are in a strict order, and two of which neither is less are one
  pub record PointsOrdered : Type 0 where
    pub less_irr : (p : Point) → Occurs p → less p p ≡ false
    pub less_trans : (p q r : Point) → Occurs p → Occurs q → Occurs r → less p q ≡ true → less q r ≡ true → less p r ≡ true
    pub less_same : (p q : Point) → Occurs p → Occurs q → less p q ≡ false → less q p ≡ false → p ≡ q

  pub record Geometry : Type 1 where
    -- p lies on piece i with its ends added, included or not
    pub On : ℕ → Point → Type 0
    -- i and j lie on one line
    pub Aligned : ℕ → ℕ → Type 0
    pub ordered : PointsOrdered
    -- a piece lies between its ends and holds them; strictly between them it contains what lies on it
    pub min_max : (i : ℕ) → i < n → less (min i) (max i) ≡ true
    pub on_min : (i : ℕ) → i < n → On i (min i)
    pub on_max : (i : ℕ) → i < n → On i (max i)
    pub on_range : (i : ℕ) (p : Point) → i < n → Occurs p → On i p → (less p (min i) ≡ false) × (less (max i) p ≡ false)
    pub contains_on : (i : ℕ) (p : Point) → i < n → Occurs p → contains i p ≡ true → On i p
    pub on_contains : (i : ℕ) (p : Point) → i < n → Occurs p → On i p → less (min i) p ≡ true → less p (max i) ≡ true → contains i p ≡ true
    -- the test: whichever piece asks; pieces that cross do so at the one point on both; those that share a point do
    pub test_sym : (i j : ℕ) → i < n → j < n → i ≢ j → test i j ≡ test j i
    pub crossing_sym : (i j : ℕ) → i < n → j < n → i ≢ j → test i j ≡ crosses → crossing i j ≡ crossing j i
    pub crossing_on : (i j : ℕ) → i < n → j < n → i ≢ j → test i j ≡ crosses → On i (crossing i j) × On j (crossing i j)
    pub crossing_only : (i j : ℕ) (p : Point) → i < n → j < n → i ≢ j → Occurs p → test i j ≡ crosses → On i p → On j p → p ≡ crossing i j
    pub crossing_not_aligned : (i j : ℕ) → i < n → j < n → i ≢ j → test i j ≡ crosses → ¬ Aligned i j
    pub contains_crosses : (i j : ℕ) (p : Point) → i < n → j < n → i ≢ j → Occurs p → contains i p ≡ true → contains j p ≡ true → ¬ Aligned i j → test i j ≡ crosses
    pub overlap_on : (i j : ℕ) → i < n → j < n → i ≢ j → test i j ≡ overlaps → On i (later C (min i) (min j)) × On j (later C (min i) (min j))
    pub aligned_dec : (i j : ℕ) → Dec (Aligned i j)
    pub aligned_trans : (i j k : ℕ) (p : Point) → i < n → j < n → k < n → Occurs p → On i p → On j p → On k p → Aligned i j → Aligned j k → Aligned i k
    -- pieces under the sweep at p stand in a strict total order
    pub before_irr : (p : Point) (i : ℕ) → before p i i ≡ false
    pub before_trans : (p : Point) → Occurs p → (i j k : ℕ) → Under p i → Under p j → Under p k → before p i j ≡ true → before p j k ≡ true → before p i k ≡ true
    pub before_total : (p : Point) → Occurs p → (i j : ℕ) → Under p i → Under p j → i ≢ j → before p i j ≡ false → before p j i ≡ true
    -- of three pieces in this order at p, the outer two through a later point c: so goes the middle one, or it crosses
    -- one of them before c
    pub squeeze : (p c : Point) → Occurs p → Occurs c → less p c ≡ true → (i k j : ℕ) → Under p i → Under p k → Under p j
        → less c (max i) ≡ true → less c (max k) ≡ true → less c (max j) ≡ true
        → before p i k ≡ true → before p k j ≡ true → On i c → On j c → On k c ⊎ (CrossBetween p c i k ⊎ CrossBetween p c k j)
