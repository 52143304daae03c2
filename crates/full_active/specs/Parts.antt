-- What a piece of the array does at a point, and places in the active list told by it.
use Rattle.std.specs.Prelude.{◌≡◌, Bool, true, false, List, ℕ, ◌-◌, ◌≤◌, ◌<◌, ℤ, get_or}
use Rattle.fractions.specs.Point.{point_order}
use Rattle.fractions.specs.declared.Point.{Point}
use Rattle.line_segment.specs.Piece.{point_of}
use Rattle.sweep.specs.Ported.{is_equal}
use Rattle.full_steps.specs.InPlace.{is_greater_lem}
use Rattle.full_order.specs.Finer.{aside}
use Rattle.ported_pieces.specs.Table.{piece_in}

-- it lies below the point, goes through it, starts there, finishes there
abbrev pub below_in : List ℤ → Point → ℕ → Bool
below_in table q i = is_greater_lem (aside q (piece_in table i))

abbrev pub through_in : List ℤ → Point → ℕ → Bool
through_in table q i = is_equal (aside q (piece_in table i))

abbrev pub starts_in : List ℤ → Point → ℕ → Bool
starts_in table q i = is_equal (point_order (point_of (piece_in table i).min) q)

abbrev pub finishes_in : List ℤ → Point → ℕ → Bool
finishes_in table q i = is_equal (point_order (point_of (piece_in table i).max) q)

-- of the first `live` members of l, the one in front of place r passes, and the one at r does not
pub record Edge (f : ℕ → Bool) (l : List ℕ) (live r : ℕ) : Type 0 where
  pub within : r ≤ live
  pub last_in : 0 < r → f (get_or l (r - 1) 0) ≡ true
  pub first_out : r < live → f (get_or l r 0) ≡ false

-- from r up to `from` all pass, and the one in front of r does not
pub record Down (f : ℕ → Bool) (l : List ℕ) (from r : ℕ) : Type 0 where
  pub within : r ≤ from
  pub all_in : (i : ℕ) → r ≤ i → i < from → f (get_or l i 0) ≡ true
  pub last_out : 0 < r → f (get_or l (r - 1) 0) ≡ false

-- from `from` up to r all pass, and the one at r does not
pub record Up (f : ℕ → Bool) (l : List ℕ) (live from r : ℕ) : Type 0 where
  pub begun : from ≤ r
  pub within : r ≤ live
  pub all_in : (i : ℕ) → from ≤ i → i < r → f (get_or l i 0) ≡ true
  pub first_out : r < live → f (get_or l r 0) ≡ false
