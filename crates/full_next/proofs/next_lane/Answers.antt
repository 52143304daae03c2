-- `full_next::next_lane` meets its contract: the least lane against the end.
use borrow.Author.Rules.{rules}
use mathlib.Core.Path.{ap₂, ◌∙◌}
use mir.Syntax.{w16}
use mir.ValLaws.{to_z-of_z}
use Rattle.fractions.specs.Point.{whole_of}
use Rattle.full_lanes.proofs.Least.{wider}
use Rattle.full_next.proofs.Choosing.{no_lane, lane_next, end_next}
use Rattle.full_next.proofs.next_lane.Goals as goal

pub returns-then-live-k : goal.returns-then-live-k
returns-then-live-k c = no_lane _ _ _ _ _ _ c.requires.0 c.least_lane-k.ensures c.if-live-k.true

pub lane_first-requires : goal.lane_first-requires
lane_first-requires c =
    let K = c.requires.0 in
    let h = c.if-live-k.false in
    wider (K.taken _ h (c.least_lane-k.ensures.taken h)) K.places

pub returns-then-lane_first : goal.returns-then-lane_first
returns-then-lane_first c =
    lane_next _ _ _ _ c.args.key _ c.requires.0 c.least_lane-k.ensures c.if-live-k.false c.lane_first.ensures
    (ap₂ whole_of (to_z-of_z w16 _ (search rules) ∙ c.end_x.ensures) (to_z-of_z w16 _ (search rules) ∙ c.end_y.ensures)) c.if-lane_first.true

pub returns : goal.returns
returns c =
    end_next _ _ _ _ c.args.key _ c.requires.0 c.least_lane-k.ensures c.if-live-k.false c.lane_first.ensures
    (ap₂ whole_of (to_z-of_z w16 _ (search rules) ∙ c.end_x.ensures) (to_z-of_z w16 _ (search rules) ∙ c.end_y.ensures)) c.if-lane_first.false
