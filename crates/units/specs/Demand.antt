-- What is promised of the two whole units between which a fraction x / d lies, over whole numbers.
use Rattle.std.specs.Prelude.{◌≡◌, ◌↔◌, ℕ, ◌*◌, ◌<◌, ◌≤◌, ℤ, pos, nat_abs, ◌+ℤ◌, ◌-ℤ◌, ◌*ℤ◌, ◌≤ℤ◌, ◌<ℤ◌}
use Rattle.units.specs.Units.{low_of, high_of}

-- "the greatest whole unit not above the exact value": x / d is at least w and below w + 1, times d
pub record Low (x : ℤ) (d : ℕ) (w : ℤ) : Type 0 where
  pub not_above : (w *ℤ pos d) ≤ℤ x
  pub greatest : x <ℤ ((w +ℤ pos 1) *ℤ pos d)

abbrev pub LowExactly : Type 0
LowExactly = (x : ℤ) (d : ℕ) → 0 < d → (w : ℤ) → (low_of x d ≡ w) ↔ Low x d w

-- "the least not below it": x / d is above w - 1 and at most w, times d
pub record High (x : ℤ) (d : ℕ) (w : ℤ) : Type 0 where
  pub not_below : x ≤ℤ (w *ℤ pos d)
  pub least : ((w -ℤ pos 1) *ℤ pos d) <ℤ x

abbrev pub HighExactly : Type 0
HighExactly = (x : ℤ) (d : ℕ) → 0 < d → (w : ℤ) → (high_of x d ≡ w) ↔ High x d w

-- "equal when the value is whole", and only then: d divides x
abbrev pub EqualWhenWhole : Type 0
EqualWhenWhole = (x : ℤ) (d : ℕ) → 0 < d → (low_of x d ≡ high_of x d) ↔ ((w : ℤ) × (x ≡ w *ℤ pos d))

-- no whole unit lies strictly between the two
abbrev pub NoneBetween : Type 0
NoneBetween = (x : ℤ) (d : ℕ) → 0 < d → (v : ℤ) → low_of x d <ℤ v → v <ℤ high_of x d → ⊥

-- a whole number is its own unit on both sides
abbrev pub WholeStays : Type 0
WholeStays = (x : ℤ) → (low_of x 1 ≡ x) × (high_of x 1 ≡ x)

-- a fraction that is no larger than a whole number in size has no larger units
abbrev pub StaysWithin : Type 0
StaysWithin = (x : ℤ) (d m : ℕ) → nat_abs x ≤ m * d → (nat_abs (low_of x d) ≤ m) × (nat_abs (high_of x d) ≤ m)
