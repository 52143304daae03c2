-- `full_visit::visit` meets its contract: the lane or the end that comes next, and the step there.
use mathlib.Core.Path.{refl, ap₂, ◌∙◌}
use mir.Syntax.{w16}
use mir.ValLaws.{to_z-of_z}
use native.Mathlib.Omega.{arith}
use Rattle.fractions.specs.Point.{whole_of}
use Rattle.full_visit.proofs.Choosing.{keyed, key_small, cross_at, lane_awaits, lane_after, end_awaits, end_after}
use borrow.Author.Rules.{rules}
use Rattle.full_visit.proofs.visit.Goals as goal

pub next_lane-k-requires : goal.next_lane-k-requires
next_lane-k-requires c =
    let w = c.requires in
    (keyed w.1.3, key_small w.1.3 w.0)

pub meeting_at-point-requires : goal.meeting_at-point-requires
meeting_at-point-requires c =
    let w = c.requires in
    omega (arith, (cross_at w.1.3 w.0 c.next_lane-k.ensures c.if-k-live.true).two, w.1.3.carried.lanes_are.places)

pub at_crossing-at-requires : goal.at_crossing-at-requires
at_crossing-at-requires c =
    let w = c.requires in
    let N = c.next_lane-k.ensures in
    let l = c.if-k-live.true in
    record { ready = ((w.1.0, w.1.1, w.1.2, lane_awaits w.1.3 w.0 N l), cross_at w.1.3 w.0 N l); p_value = (c.meeting_at-point.ensures, refl) }

pub returns-then-k-live : goal.returns-then-k-live
returns-then-k-live c n lent m a =
    let w = c.requires in
    let N = c.next_lane-k.ensures in
    let l = c.if-k-live.true in
    lane_after a w.0 N l (c.at_crossing-at.ensures n lent m (lane_awaits a w.0 N l)) _ c.meeting_at-point.ensures

pub end_x-requires : goal.end_x-requires
end_x-requires c = let w = c.requires in key_small w.1.3 w.0

pub at_end-at-requires : goal.at_end-at-requires
at_end-at-requires c =
    let w = c.requires in
    (key_small w.1.3 w.0, (w.1.0, w.1.1, w.1.2, end_awaits w.1.3 w.0 c.next_lane-k.ensures c.if-k-live.false c.pass-to.ensures))

pub returns : goal.returns
returns c n lent m a =
    let w = c.requires in
    let N = c.next_lane-k.ensures in
    let l = c.if-k-live.false in
    let P = c.pass-to.ensures in
    end_after a w.0 N l P (c.at_end-at.ensures n lent m (end_awaits a w.0 N l P)) _
    (c.whole-point.ensures ∙ ap₂ whole_of (to_z-of_z w16 _ (search rules) ∙ c.end_x.ensures) (to_z-of_z w16 _ (search rules) ∙ c.end_y.ensures))
