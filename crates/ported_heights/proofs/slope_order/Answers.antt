-- `ported_heights::slope_order` meets its contract: the products fit, and they are those of the slopes.
use mathlib.Core.Path.{ap₂, ◌∙◌}
use lib.IntN.{◌*ℤ◌}
use Rattle.line_segment.proofs.Holding.{bits}
use Rattle.integers.proofs.Machine.{m_fits, m_eq}
use Rattle.integers.proofs.Tests.{sized}
use Rattle.fractions.specs.Order.{order}
use Rattle.ported_heights.proofs.Lines.{slope_is}
use Rattle.ported_heights.proofs.slope_order.Goals as goal

pub overflow_mul-s : goal.overflow_mul-s
overflow_mul-s c = let h = c.rise.ensures.1 in let k = c.run.ensures.1 in m_fits (search sized depth 60 fits 20000) tt

pub overflow_mul-t : goal.overflow_mul-t
overflow_mul-t c = let h = c.rise-2.ensures.1 in let k = c.run-2.ensures.1 in m_fits (search sized depth 60 fits 20000) tt

pub returns : goal.returns
unfolding order
returns c =
    let h = c.rise.ensures.1 in
    let k = c.run.ensures.1 in
    let h' = c.rise-2.ensures.1 in
    let k' = c.run-2.ensures.1 in
    c.cmp.ensures
    ∙ ap₂ order {x = bits (bits c.rise.result *ℤ bits c.run.result)} {u = bits (bits c.rise-2.result *ℤ bits c.run-2.result)} (m_eq (search sized depth 60 fits 20000) tt) (m_eq (search sized depth 60 fits 20000) tt)
    ∙ slope_is _ _ c.rise.ensures.0 c.run.ensures.0 c.rise-2.ensures.0 c.run-2.ensures.0
