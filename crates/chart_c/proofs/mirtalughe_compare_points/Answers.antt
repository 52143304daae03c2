-- `chart_c::mirtalughe_compare_points` meets its contract: each arm returns the number of its case.
use mathlib.Core.Path.{◌∙◌, sym, ap, ap₂, refl}
use Rattle.integers.proofs.Machine.{m_eq}
use Rattle.integers.proofs.Tests.{ranged}
use Rattle.fractions.specs.Point.{point_order}
use Rattle.fractions.proofs.Quotient.{same_record}
use Rattle.c_records.specs.Numbers.{order_number}
use Rattle.chart_c.proofs.mirtalughe_compare_points.Goals as goal

pub returns-in-Less : goal.returns-in-Less
unfolding order_number
returns-in-Less c = ap order_number
    (sym c.in-Less.is ∙ c.compare_points.ensures
    ∙ ap₂ point_order
    (same_record (m_eq (search ranged depth 60 fits 20000) tt) (m_eq (search ranged depth 60 fits 20000) tt) refl)
    (same_record (m_eq (search ranged depth 60 fits 20000) tt) (m_eq (search ranged depth 60 fits 20000) tt) refl))

pub returns-in-Equal : goal.returns-in-Equal
unfolding order_number
returns-in-Equal c = ap order_number
    (sym c.in-Equal.is ∙ c.compare_points.ensures
    ∙ ap₂ point_order
    (same_record (m_eq (search ranged depth 60 fits 20000) tt) (m_eq (search ranged depth 60 fits 20000) tt) refl)
    (same_record (m_eq (search ranged depth 60 fits 20000) tt) (m_eq (search ranged depth 60 fits 20000) tt) refl))

pub returns-in-Greater : goal.returns-in-Greater
unfolding order_number
returns-in-Greater c = ap order_number
    (sym c.in-Greater.is ∙ c.compare_points.ensures
    ∙ ap₂ point_order
    (same_record (m_eq (search ranged depth 60 fits 20000) tt) (m_eq (search ranged depth 60 fits 20000) tt) refl)
    (same_record (m_eq (search ranged depth 60 fits 20000) tt) (m_eq (search ranged depth 60 fits 20000) tt) refl))
