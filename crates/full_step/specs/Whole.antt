-- A whole step at a point, over the arrays: both halves, then the two outer pairs of the block examined.
use Rattle.std.specs.Prelude.{◌≡◌, cond, List, ◌++◌, ℕ, ◌+◌, ◌-◌, ◌≤◌, ltb, ℤ, length, take, set, replicate}
use mathlib.Core.List.{Memᴰ as In}
use Rattle.std.proofs.Math.Seq.{slice}
use Rattle.fractions.specs.declared.Point.{Point}
use Rattle.sweep.specs.Lists.{keep, pairs}
use Rattle.sweep_geometry.specs.Demand.{Proper}
use Rattle.ported_pieces.specs.Table.{piece_in}
use Rattle.full_points.specs.declared.Spot.{Spot}
use Rattle.full_points.specs.Spot.{Fair}
use Rattle.full_lanes.specs.Lanes.{no_key, examined}
use Rattle.full_list.specs.Listed.{fresh_in, Roomy, Listed}
use Rattle.full_step.specs.declared.At.{At}
use Rattle.full_step.specs.Halves.{InBounds, Turnable, at_point, new_block}

module _ (table : List ℤ) (active : List ℕ) (live lo m : ℕ) (p : Point) where
  -- the lane in front of the block anew, if something stands there
  unfoldable pub lower_examined : List ℕ → List ℕ
  lower_examined lanes = cond (ltb 0 lo) (set lanes (lo - 1) (examined table active live (lo - 1) p)) lanes

  -- the lane of the block's last piece anew, if it has one
  unfoldable pub upper_examined : List ℕ → List ℕ
  upper_examined lanes = cond (ltb 0 m) (set lanes (lo + m - 1) (examined table active live (lo + m - 1) p)) lanes

  -- both; where the block is empty, the first is the pair that closes up
  abbrev pub outer_examined : List ℕ → List ℕ
  outer_examined lanes = upper_examined (lower_examined lanes)

-- both halves can be done, and the pieces that are active then have some length
pub record Steppable (table : List ℤ) (spot : Spot) (active lanes : List ℕ) (live lo hi : ℕ) (ends bytes : List ℕ) (end : ℕ) : Type 0 where
  pub fair : Fair spot
  pub bounds : InBounds lo hi active ends
  pub turnable : Turnable active lanes live hi ends
  pub roomy : Roomy table spot (pairs (at_point lo hi active ends)) bytes end
  pub proper : (i : ℕ) → In i (take lo active ++ (new_block table roomy.point lo hi active ends ++ slice hi live active)) → Proper (piece_in table i)

-- the new pairs are listed, and `new` stands where the block stood. The lanes outside the block stay, there is none inside
-- it, and the outer pairs are examined anew
pub record Stepped (table : List ℤ) (q p : Point) (active lanes : List ℕ) (live lo hi : ℕ) (ends bytes : List ℕ) (end : ℕ)
    (active' lanes' bytes' : List ℕ) (r : At) (new : List ℕ) : Type 0 where
  pub live_is : r.live ≡ lo + length new + (live - hi)
  pub fits : r.live ≤ length active'
  pub pieces_are : take r.live active' ≡ take lo active ++ (new ++ slice hi live active)
  pub lanes_are : take r.live lanes'
      ≡ outer_examined table active' r.live lo (length new) p (take lo lanes ++ (replicate (length new) no_key ++ slice hi live lanes))
  pub pairs_are : Listed (keep (fresh_in table q) (pairs (at_point lo hi active ends))) bytes end bytes' r.end
