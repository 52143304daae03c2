-- `full_examine::lane_at` meets its contract.
use mathlib.Core.Path.{◌∙◌}
use Rattle.full_lanes.proofs.Laning.{examined_two, examined_last}
use Rattle.full_examine.proofs.lane_at.Goals as goal

pub lane_of-requires : goal.lane_of-requires
lane_of-requires c =
    let h = c.requires in
    (h.2 _ h.0, h.2 _ c.if-k-live.true)

pub returns-then-k-live : goal.returns-then-k-live
returns-then-k-live c = c.lane_of.ensures ∙ examined_two _ _ _ _ _ c.if-k-live.true

pub returns-else-k-live : goal.returns-else-k-live
returns-else-k-live c = examined_last _ _ _ _ _ c.if-k-live.false
