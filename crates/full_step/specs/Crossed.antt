-- A step at a point where two neighbours cross and no other piece goes through, over the arrays: they change places.
use Rattle.std.specs.Prelude.{◌≡◌, List, [], ◌∷◌, ◌++◌, ℕ, ◌+◌, ◌≤◌, ◌<◌, ℤ, length, get_or, take, replicate}
use mathlib.Core.List.{Memᴰ as In}
use Rattle.std.proofs.Math.Seq.{slice}
use Rattle.fractions.specs.declared.Point.{Point}
use Rattle.sweep_geometry.specs.Demand.{Proper}
use Rattle.ported_pieces.specs.Table.{piece_in}
use Rattle.full_lanes.specs.Lanes.{no_key, pair_at}
use Rattle.full_list.specs.Listed.{Listed}
use Rattle.full_step.specs.declared.At.{At}
use Rattle.full_step.specs.Whole.{outer_examined}

-- the pieces at places k and k + 1, the last first
unfoldable pub turned_two : List ℕ → ℕ → List ℕ
turned_two active k = get_or active (k + 1) 0 ∷ get_or active k 0 ∷ []

-- there are two, a lane beside each place, and room for their pair; and the active pieces have some length
pub record Crossable (table : List ℤ) (active lanes : List ℕ) (live k : ℕ) (bytes : List ℕ) (end : ℕ) : Type 0 where
  pub two : k + 1 < live
  pub places : live ≤ length active
  pub alike : length lanes ≡ length active
  pub room : end + 2 ≤ length bytes
  pub proper : (i : ℕ) → In i (take k active ++ (turned_two active k ++ slice (k + 2) live active)) → Proper (piece_in table i)

-- their pair is listed, and they have changed places. The other lanes stay, there is none between the two, and the outer
-- pairs are examined anew
pub record Crossed (table : List ℤ) (p : Point) (active lanes : List ℕ) (live k : ℕ) (bytes : List ℕ) (end : ℕ) (active' lanes' bytes' : List ℕ) (r : At) : Type 0 where
  pub live_is : r.live ≡ live
  pub pieces_are : take live active' ≡ take k active ++ (turned_two active k ++ slice (k + 2) live active)
  pub lanes_are : take live lanes' ≡ outer_examined table active' live k 2 p (take k lanes ++ (replicate 2 no_key ++ slice (k + 2) live lanes))
  pub pairs_are : Listed (pair_at active k ∷ []) bytes end bytes' r.end
