-- `segment_crossing::over` meets its contract: turned where D is below 0.
use mathlib.Core.Path.{◌∙◌, ap}
use lib.IntN.{nat_abs, +ℤ_idl}
use mir.Syntax.{w64}
use mir.ValLaws.{to_z-of_z}
use Rattle.integers.proofs.Machine.{m_fits, m_eq}
use Rattle.integers.proofs.Tests.{sized, ranged, m_yes, m_no}
use Rattle.line_segment.proofs.CramersRule.{over_below, over_above}
use Rattle.segment_crossing.proofs.over.Goals as goal

pub overflow_sub-result : goal.overflow_sub-result
overflow_sub-result c = m_fits (search sized depth 60 fits 20000) tt

pub overflow_sub-result-then-d-lt0 : goal.overflow_sub-result-then-d-lt0
overflow_sub-result-then-d-lt0 c = m_fits (search sized depth 60 fits 20000) tt

pub returns-then-d-lt0 : goal.returns-then-d-lt0
returns-then-d-lt0 c = over_below _ _ (m_yes c.if-d-lt0.true (search ranged depth 60 fits 20000) tt) (m_eq (search sized depth 60 fits 20000) tt ∙ +ℤ_idl _) (m_eq (search sized depth 60 fits 20000) tt ∙ +ℤ_idl _) (c.size.ensures ∙ ap nat_abs (to_z-of_z w64 _ c.ranges.d))

pub returns-else-d-lt0 : goal.returns-else-d-lt0
returns-else-d-lt0 c = over_above _ _ (m_no c.if-d-lt0.false (search ranged depth 60 fits 20000) tt) (m_eq (search ranged depth 60 fits 20000) tt) (m_eq (search ranged depth 60 fits 20000) tt) (c.size-else-d-lt0.ensures ∙ ap nat_abs (to_z-of_z w64 _ c.ranges.d))
