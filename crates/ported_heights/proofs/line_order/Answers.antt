-- `ported_heights::line_order` meets its contract: each arm knows which line is the steeper.
use mathlib.Core.Path.{sym, ap, ◌∙◌}
use Rattle.std.proofs.Common.{inl, inr}
use Rattle.integers.proofs.Machine.{m_eq}
use Rattle.integers.proofs.Tests.{ranged}
use Rattle.fractions.specs.Order.{turned}
use Rattle.fractions.proofs.Ratios.{ratio_turned}
use Rattle.ported_heights.proofs.Lines.{tilt_less, tilt_equal, tilt_greater, meets_ahead, meets_behind}
use Rattle.ported_heights.proofs.line_order.Goals as goal

pub returns-in-Less : goal.returns-in-Less
returns-in-Less c =
    c.compare_ratios-ahead.ensures
    ∙ meets_ahead _ _ _ c.cramer-c.ensures (m_eq (search ranged depth 60 fits 20000) tt) (m_eq (search ranged depth 60 fits 20000) tt)
    (elim c.in-Less.is [ inl e ↦ tilt_less _ _ (sym c.slope_order.ensures ∙ e) | inr e ↦ tilt_equal _ _ (sym c.slope_order.ensures ∙ e) ])

pub returns-in-Greater : goal.returns-in-Greater
returns-in-Greater c =
    c.reverse.ensures
    ∙ ap turned c.compare_ratios-ahead.ensures
    ∙ sym (ratio_turned _ _ _ _)
    ∙ meets_behind _ _ _ c.cramer-c.ensures (m_eq (search ranged depth 60 fits 20000) tt) (m_eq (search ranged depth 60 fits 20000) tt)
    (tilt_greater _ _ (sym c.slope_order.ensures ∙ c.in-Greater.is))
