-- `full_points::is_at` meets its contract.
use mathlib.Core.Path.{ap, ◌∙◌}
use Prim.Native.Nat.{◌+◌, ◌*◌}
use lib.IntN.{ℤ, pos, ◌+ℤ◌, ◌*ℤ◌}
use mir.Syntax.{w16}
use mir.ValLaws.{to_z-of_z}
use Rattle.fractions.specs.Order.{order}
use Rattle.sweep.specs.Ported.{is_equal}
use Rattle.full_points.proofs.Spots.{at_both, at_neither}
use Rattle.full_points.proofs.is_at.Goals as goal

pub returns-then-is_whole : goal.returns-then-is_whole
returns-then-is_whole c q k =
    let a = c.args in
    let m = a.p in
    let h = c.requires in
    at_both a.x a.y m h q k
    (c.is_whole.ensures m.d h.rest_x ∙ ap (λ (z : ℤ). is_equal (order ((z +ℤ pos 32768) *ℤ pos m.d) (pos (m.wx * m.d + m.rx)))) (to_z-of_z w16 a.x c.ranges.x))
    c.if-is_whole.true
    (c.is_whole-then-is_whole.ensures m.d h.rest_y ∙ ap (λ (z : ℤ). is_equal (order ((z +ℤ pos 32768) *ℤ pos m.d) (pos (m.wy * m.d + m.ry)))) (to_z-of_z w16 a.y c.ranges.y))

pub returns-else-is_whole : goal.returns-else-is_whole
returns-else-is_whole c q k =
    let a = c.args in
    let m = a.p in
    let h = c.requires in
    c.if-is_whole.false
    ∙ at_neither a.x a.y m h q k
    (c.is_whole.ensures m.d h.rest_x ∙ ap (λ (z : ℤ). is_equal (order ((z +ℤ pos 32768) *ℤ pos m.d) (pos (m.wx * m.d + m.rx)))) (to_z-of_z w16 a.x c.ranges.x))
    c.if-is_whole.false
