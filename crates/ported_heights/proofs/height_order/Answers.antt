-- `ported_heights::height_order` meets its contract: each branch knows which pieces are upright.
use mathlib.Core.Path.{sym, ◌∙◌}
use Rattle.integers.proofs.Machine.{m_fits, m_eq}
use Rattle.integers.proofs.Tests.{ranged}
use Rattle.ported_heights.proofs.Lines.{both_upright, first_upright, second_upright, over_zero, both_sloped}
use Rattle.ported_heights.proofs.height_order.Goals as goal

pub overflow_cast-s : goal.overflow_cast-s
overflow_cast-s c = m_fits (search ranged depth 60 fits 20000) tt

pub overflow_cast-t : goal.overflow_cast-t
overflow_cast-t c = m_fits (search ranged depth 60 fits 20000) tt

pub returns-then-is_upright-2 : goal.returns-then-is_upright-2
returns-then-is_upright-2 c =
    c.compare_ratios.ensures
    ∙ both_upright _ _ _ (m_eq (search ranged depth 60 fits 20000) tt) (m_eq (search ranged depth 60 fits 20000) tt)
    (sym c.is_upright.ensures ∙ c.if-is_upright.true) (sym c.is_upright-then-is_upright.ensures ∙ c.if-is_upright-2.true)

pub returns-else-is_upright-2 : goal.returns-else-is_upright-2
returns-else-is_upright-2 c =
    c.line_order.ensures
    ∙ first_upright _ _ _ c.level.ensures (m_eq (search ranged depth 60 fits 20000) tt)
    (sym c.is_upright.ensures ∙ c.if-is_upright.true) (sym c.is_upright-then-is_upright.ensures ∙ c.if-is_upright-2.false)

pub returns-then-is_upright-3 : goal.returns-then-is_upright-3
returns-then-is_upright-3 c =
    c.line_order-then-is_upright-3.ensures
    ∙ second_upright _ _ _ c.level-then-is_upright-3.ensures (m_eq (search ranged depth 60 fits 20000) tt)
    (sym c.is_upright.ensures ∙ c.if-is_upright.false) (sym c.is_upright-else-is_upright.ensures ∙ c.if-is_upright-3.true)

pub returns-then-p-eq0 : goal.returns-then-p-eq0
returns-then-p-eq0 c =
    over_zero _ _ _ (sym c.is_upright.ensures ∙ c.if-is_upright.false) (sym c.is_upright-else-is_upright.ensures ∙ c.if-is_upright-3.false) c.if-p-eq0.true

pub returns-else-p-eq0 : goal.returns-else-p-eq0
returns-else-p-eq0 c =
    c.line_order-else-p-eq0.ensures
    ∙ both_sloped _ _ _ (sym c.is_upright.ensures ∙ c.if-is_upright.false) (sym c.is_upright-else-is_upright.ensures ∙ c.if-is_upright-3.false) c.if-p-eq0.false
