-- `orientation::orient` meets its contract: the determinant's order to 0 is its sign.
use mathlib.Core.Path.{◌∙◌, ap}
use mir.Syntax.{w64}
use mir.Val.{to_z, of_z}
use Rattle.integers.proofs.Machine.{m_eq}
use Rattle.integers.proofs.Tests.{ranged}
use Rattle.orientation.specs.Turn.{det, turn_of}
use Rattle.orientation.proofs.Signs.{turn_by_order}
use Rattle.orientation.proofs.orient.Goals as goal

pub returns-in-Less : goal.returns-in-Less
unfolding det
returns-in-Less c = turn_by_order (to_z w64 (of_z w64 c.determinant.result)) c.cmp.ensures c.in-Less.is ∙ ap turn_of (m_eq (search ranged depth 60 fits 20000) tt ∙ c.determinant.ensures ∙ m_eq (search ranged depth 60 fits 20000) tt)

pub returns-in-Equal : goal.returns-in-Equal
unfolding det
returns-in-Equal c = turn_by_order (to_z w64 (of_z w64 c.determinant.result)) c.cmp.ensures c.in-Equal.is ∙ ap turn_of (m_eq (search ranged depth 60 fits 20000) tt ∙ c.determinant.ensures ∙ m_eq (search ranged depth 60 fits 20000) tt)

pub returns-in-Greater : goal.returns-in-Greater
unfolding det
returns-in-Greater c = turn_by_order (to_z w64 (of_z w64 c.determinant.result)) c.cmp.ensures c.in-Greater.is ∙ ap turn_of (m_eq (search ranged depth 60 fits 20000) tt ∙ c.determinant.ensures ∙ m_eq (search ranged depth 60 fits 20000) tt)
