-- Which comes next: the end of a key, or the crossing of a lane.
use Rattle.std.specs.Prelude.{◌≡◌, true, false, List, ℕ, ◌<◌, ◌≤◌, ℤ, get_or}
use Rattle.fractions.specs.Point.{point_order}
use Rattle.sweep.specs.Ported.{is_less}
use Rattle.full_lanes.specs.Lanes.{no_key, meeting_at, LeastLane}
use Rattle.full_ends.specs.Demand.{standing}

-- the crossing of lane r, which is the least and comes before the end; or, where r is `live`, the end, than which none comes
-- earlier
pub record Next (table : List ℤ) (active lanes : List ℕ) (live key r : ℕ) : Type 0 where
  pub within : r ≤ live
  pub lane : r < live → LeastLane table active lanes live r × (is_less (point_order (meeting_at table active r) (standing key)) ≡ true)
  pub end : r ≡ live → (k : ℕ) → k < live → get_or lanes k 0 < no_key → is_less (point_order (meeting_at table active k) (standing key)) ≡ false
