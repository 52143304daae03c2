-- `full_points::aside` meets its contract: far from the line the whole parts decide.
use borrow.Author.Rules.{rules}
use native.Mathlib.Omega.{arith}
use mir.Syntax.{w64}
use mir.ValLaws.{to_z-of_z}
use Rattle.integers.specs.Size.{Small}
use Rattle.integers.proofs.Machine.{steps, m_small, m_bound}
use Rattle.integers.proofs.Sizes.{small_of}
use Rattle.integers.proofs.Tests.{ranged, m_yes, m_no}
use mathlib.Core.Path.{sym, ◌∙◌}
use Rattle.fractions.specs.Order.{order}
use Rattle.fractions.proofs.Orders.{order_less, order_greater}
use Rattle.line_segment.specs.Geometry.{run, rise}
use Rattle.full_points.proofs.Sides.{aside_parts, near_is, far_above, far_below}
use Rattle.full_points.proofs.Spots.{run_small, rise_small}
use Rattle.full_points.proofs.aside.Goals as goal

pub returns-then-f-gt-FAR : goal.returns-then-f-gt-FAR
returns-then-f-gt-FAR c q k =
    let a = c.args in
    let h = c.requires in
    sym (order_greater (far_above _ (run a.s) (rise a.s) a.p.rx a.p.ry a.p.d (run_small a.s (search rules) (search rules)) (rise_small a.s (search rules) (search rules)) h.rest_x h.rest_y (omega (arith, h.rest_x))
    (rw c.whole_side-f.ensures at (m_yes c.if-f-gt-FAR.true (search ranged depth 60 fits 20000) tt))))
    ∙ aside_parts a.s a.p q (omega (arith, h.rest_x)) k

pub returns-then-f : goal.returns-then-f
returns-then-f c q k =
    let a = c.args in
    let h = c.requires in
    sym (order_less (far_below _ (run a.s) (rise a.s) a.p.rx a.p.ry a.p.d (run_small a.s (search rules) (search rules)) (rise_small a.s (search rules) (search rules)) h.rest_x h.rest_y (omega (arith, h.rest_x))
    (rw c.whole_side-f.ensures at (m_yes c.if-f.true (search ranged depth 60 fits 20000) tt))))
    ∙ aside_parts a.s a.p q (omega (arith, h.rest_x)) k

pub near_side-requires : goal.near_side-requires
near_side-requires c =
    let s : Small 131072 c.whole_side-f.result = small_of (m_no c.if-f.false (search ranged depth 60 fits 20000) tt) (m_no c.if-f-gt-FAR.false (search ranged depth 60 fits 20000) tt) in
    let r = c.requires in
    (m_bound (search (steps, m_small) depth 60 fits 20000) tt, omega arith, omega arith, omega arith)

pub returns : goal.returns
unfolding order
returns c q k =
    let a = c.args in
    let h = c.requires in
    c.cmp.ensures
    ∙ near_is a.s a.p q (omega (arith, h.rest_x)) k (to_z-of_z w64 _ (search rules)) c.near_side.ensures (to_z-of_z w64 _ (search rules)) c.whole_side-f.ensures
