-- `ported_pieces::before` meets its contract: by height, then by slope, then by number.
use mathlib.Core.Path.{refl, ap, ap₂, ◌∙◌}
use Rattle.std.proofs.Common.{rules}
use Rattle.fractions.specs.Order.{and_then}
use Rattle.fractions.proofs.Orders.{chained, nat_ordered}
use Rattle.sweep.specs.Ported.{is_less, height_order, slope_order}
use Rattle.ported_heights.proofs.Lines.{by_rank}
use Rattle.ported_pieces.specs.Table.{piece_in}
use Rattle.ported_pieces.proofs.before.Goals as goal

pub returns : goal.returns
returns c =
    let s = c.args in
    let a = c.piece-a in
    let b = c.piece-b in
    let ranked = chained c.height_order.result c.then_with.result (slope_order a.result b.result) c.then_with.ensures (λ h. search rules) in
    c.is_lt.ensures
    ∙ ap is_less
    (c.then.ensures
    ∙ ap₂ and_then ranked (c.cmp.ensures ∙ nat_ordered s.i s.j)
    ∙ by_rank (piece_in s.table.now) s.p s.i s.j (c.height_order.ensures ∙ ap₂ (height_order s.p) a.ensures b.ensures) (ap₂ slope_order a.ensures b.ensures) refl)
