-- Pieces of the active list replaced in the arrays that hold it and its lanes.
use Rattle.std.specs.Prelude.{◌≡◌, List, ◌++◌, ℕ, ◌+◌, ◌-◌, ◌≤◌, length, take, replicate}
use Rattle.std.proofs.Math.Seq.{slice}
use Rattle.full_lanes.specs.Lanes.{no_key}

-- there is room to move the places from hi up to `live` so that they begin at `to`
pub record Movable (active lanes : List ℕ) (live hi to : ℕ) : Type 0 where
  pub inside : hi ≤ live
  pub within : live ≤ length active
  pub fits : to + (live - hi) ≤ length active
  pub alike : length lanes ≡ length active

-- the first m new pieces stand where those from lo up to hi stood, and the lanes went along with the pieces
pub record Replaced (active lanes : List ℕ) (live lo hi : ℕ) (fresh : List ℕ) (m : ℕ) (active' lanes' : List ℕ) (live' : ℕ) : Type 0 where
  pub count : live' ≡ lo + m + (live - hi)
  pub pieces_are : take live' active' ≡ take lo active ++ (take m fresh ++ slice hi live active)
  pub lanes_are : take live' lanes' ≡ take lo lanes ++ (replicate m no_key ++ slice hi live lanes)
