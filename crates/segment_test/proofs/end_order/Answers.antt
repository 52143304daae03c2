-- `segment_test::end_order` meets its contract: the y decide where neither x is below the other.
use mathlib.Core.Path.{◌≡◌, refl, sym, ap, ◌∙◌}
use lib.Signed.{◌≤ℤ◌, ◌<ℤ◌}
use Rattle.std.specs.declared.cmp.Ordering.{Ordering}
use Rattle.std.specs.declared.cmp.Ordering.TheVariants.{Less, Equal, Greater}
use Rattle.integers.proofs.Order.{≤_antisym}
use Rattle.integers.proofs.Tests.{m_yes, m_no, ranged}
use Rattle.fractions.specs.Order.{order, and_then}
use Rattle.fractions.proofs.Orders.{order_less, order_equal, order_greater, int_ordered}
use Rattle.line_segment.proofs.Ends.{end_order_is}
use Rattle.segment_test.proofs.end_order.Goals as goal

pub returns-then-a-b : goal.returns-then-a-b
returns-then-a-b c =
    let a = c.args.a in
    let b = c.args.b in
    let less : a.x <ℤ b.x = m_yes c.if-a-b.true (search ranged depth 60 fits 20000) tt in
    sym (end_order_is a b ∙ ap (λ (o : Ordering). and_then o (order a.y b.y)) (order_less less))

pub returns-then-b-a : goal.returns-then-b-a
returns-then-b-a c =
    let a = c.args.a in
    let b = c.args.b in
    let greater : b.x <ℤ a.x = m_yes c.if-b-a.true (search ranged depth 60 fits 20000) tt in
    sym (end_order_is a b ∙ ap (λ (o : Ordering). and_then o (order a.y b.y)) (order_greater greater))

pub returns-else-b-a : goal.returns-else-b-a
returns-else-b-a c =
    let a = c.args.a in
    let b = c.args.b in
    let no_less : b.x ≤ℤ a.x = m_no c.if-a-b.false (search ranged depth 60 fits 20000) tt in
    let no_greater : a.x ≤ℤ b.x = m_no c.if-b-a.false (search ranged depth 60 fits 20000) tt in
    c.cmp.ensures
    ∙ int_ordered _ _
    ∙ sym (end_order_is a b ∙ ap (λ (o : Ordering). and_then o (order a.y b.y)) (order_equal (≤_antisym no_greater no_less)))
