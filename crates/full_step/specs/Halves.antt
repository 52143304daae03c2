-- The two halves of a step at a point, over the arrays.
use Rattle.std.specs.Prelude.{◌≡◌, List, [], ◌++◌, ℕ, ◌+◌, ◌-◌, ◌≤◌, ltb, ℤ, length, take, replicate}
use Rattle.std.proofs.Math.Seq.{slice}
use Rattle.fractions.specs.declared.Point.{Point}
use Rattle.charts.specs.Chart.{most}
use Rattle.sweep.specs.Lists.{keep}
use Rattle.ported_arrays.specs.Insertion.{insert_all}
use Rattle.full_points.specs.declared.Spot.{Spot}
use Rattle.full_points.specs.Spot.{Marks}
use Rattle.full_active.specs.Ranks.{rises_in, goes_on_in, backwards, starters, AllBytes}
use Rattle.full_lanes.specs.Lanes.{no_key}

-- the block lies in the array, and with the pieces that start it has no more members than a chart has pieces
pub record InBounds (lo hi : ℕ) (active ends : List ℕ) : Type 0 where
  pub ordered : lo ≤ hi
  pub within : hi ≤ length active
  pub small : AllBytes (starters ends)
  pub few : hi + length (starters ends) ≤ lo + most

-- the spot is that of some point
pub record Marked (p : Spot) : Type 0 where
  pub point : Point
  pub marks : Marks p point

-- there is room for the pieces that start, and a lane beside each place
pub record Turnable (active lanes : List ℕ) (live hi : ℕ) (ends : List ℕ) : Type 0 where
  pub inside : hi ≤ live
  pub fits : live + length (starters ends) ≤ length active
  pub alike : length lanes ≡ length active

-- the pieces at the point, by number: those of the block and those that start
abbrev pub at_point : (lo hi : ℕ) (active ends : List ℕ) → List ℕ
at_point lo hi active ends = insert_all ltb [] (slice lo hi active ++ starters ends)

-- the block anew, by slope and number: of its pieces those that go on, and those that start
abbrev pub new_block : List ℤ → Point → (lo hi : ℕ) (active ends : List ℕ) → List ℕ
new_block table q lo hi active ends = insert_all (rises_in table) [] (keep (goes_on_in table q) (backwards (slice lo hi active)) ++ starters ends)

-- `new` stands where the pieces from lo up to hi stood, without lanes, and the lanes behind went along
pub record Turned (active lanes : List ℕ) (live lo hi : ℕ) (new active' lanes' : List ℕ) (m : ℕ) : Type 0 where
  pub pieces_are : take (lo + m + (live - hi)) active' ≡ take lo active ++ (new ++ slice hi live active)
  pub lanes_are : take (lo + m + (live - hi)) lanes' ≡ take lo lanes ++ (replicate m no_key ++ slice hi live lanes)
