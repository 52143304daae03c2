-- Beside each place of the active list the key of its crossing with the next, where one lies ahead.
use Rattle.std.specs.Prelude.{◌≡◌, Bool, true, false, cond, List, ℕ, ◌+◌, ◌<◌, ◌≤◌, ltb, ℤ, length, get_or}
use Rattle.std.proofs.Math.Option.{Option, none, some}
use Rattle.fractions.specs.Point.{point_order}
use Rattle.fractions.specs.declared.Point.{Point}
use Rattle.sweep.specs.Lists.{Pair, lesser_first}
use Rattle.sweep.specs.Ported.{is_less, slope_order}
use Rattle.sweep_geometry.specs.Demand.{Proper}
use Rattle.ported_pieces.specs.Table.{piece_in, rough_at}
use Rattle.full_steps.specs.InPlace.{is_greater_lem, lane}
use Rattle.full_order.specs.Finer.{finer}
use Rattle.full_points.specs.Spot.{ChartPoint, key_of}

-- no crossing ahead: above every key
abbrev pub no_key : ℕ
no_key = 4294967295

abbrev pub keyed : Option Point → ℕ
keyed none = no_key
keyed (some c) = key_of c

-- the lane of two pieces beyond p; how many others there are does not matter
unfoldable pub lane_in : List ℤ → Point → Pair → Option Point
lane_in table p q = lane (finer 0 (piece_in table)) (some p) q

-- the pieces at places k and k + 1
unfoldable pub pair_at : List ℕ → ℕ → Pair
pair_at active k = lesser_first (get_or active k 0) (get_or active (k + 1) 0)

-- piece i is steeper than piece j
abbrev pub steeper : List ℤ → ℕ → ℕ → Bool
steeper table i j = is_greater_lem (slope_order (piece_in table i) (piece_in table j))

-- the key of the lane of i, which is in front, and j; none where i is not the steeper
unfoldable pub lane_by_slope : List ℤ → Point → ℕ → ℕ → ℕ
lane_by_slope table p i j = cond (steeper table i j) (keyed (lane_in table p (lesser_first i j))) no_key

-- what stands beside place k after it is examined
unfoldable pub examined : List ℤ → List ℕ → ℕ → ℕ → Point → ℕ
examined table active live k p = cond (ltb (k + 1) live) (lane_by_slope table p (get_or active k 0) (get_or active (k + 1) 0)) no_key

-- the first `live` places hold pieces of some length on the chart
abbrev pub ProperPlaces : List ℤ → List ℕ → ℕ → Type 0
ProperPlaces table active live = (k : ℕ) → k < live → Proper (piece_in table (get_or active k 0))

-- where the lines of places k and k + 1 meet, by Cramer's rule
abbrev pub meeting_at : List ℤ → List ℕ → ℕ → Point
meeting_at table active k = rough_at table (pair_at active k)

-- a lane that is taken stands between two places, and has the key of its crossing
pub record Taken (table : List ℤ) (active : List ℕ) (live k key : ℕ) : Type 0 where
  pub two : k + 1 < live
  pub charted : ChartPoint (meeting_at table active k)
  pub is : key ≡ key_of (meeting_at table active k)

pub record Keyed (table : List ℤ) (active lanes : List ℕ) (live : ℕ) : Type 0 where
  pub room : live ≤ length lanes
  pub places : live ≤ length active
  pub taken : (k : ℕ) → k < live → get_or lanes k 0 < no_key → Taken table active live k (get_or lanes k 0)

-- the lane of the least crossing, or `live` where none is taken
pub record LeastLane (table : List ℤ) (active lanes : List ℕ) (live r : ℕ) : Type 0 where
  pub within : r ≤ live
  pub none : r ≡ live → (k : ℕ) → k < live → no_key ≤ get_or lanes k 0
  pub taken : r < live → get_or lanes r 0 < no_key
  pub least : r < live → (k : ℕ) → k < live → get_or lanes k 0 < no_key → is_less (point_order (meeting_at table active k) (meeting_at table active r)) ≡ false

-- which of two lanes is to be kept: yes, the new one
pub record Newer (table : List ℤ) (active : List ℕ) (k key at least : ℕ) (yes : Bool) : Type 0 where
  pub take : yes ≡ true → (key < no_key) × (least < no_key → is_less (point_order (meeting_at table active at) (meeting_at table active k)) ≡ false)
  pub leave : yes ≡ false → key < no_key → (least < no_key) × (is_less (point_order (meeting_at table active k) (meeting_at table active at)) ≡ false)

-- the first place from `from` on whose key is no greater than `least`, or `live` where all are
pub record Candidate (lanes : List ℕ) (from live least r : ℕ) : Type 0 where
  pub begun : from ≤ r
  pub within : r ≤ live
  pub greater : (k : ℕ) → from ≤ k → k < r → least < get_or lanes k 0
  pub first : r < live → get_or lanes r 0 ≤ least
