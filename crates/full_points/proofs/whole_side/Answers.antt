-- `full_points::whole_side` meets its contract.
use borrow.Author.Rules.{rules}
use mathlib.Core.Path.{◌∙◌}
use mir.Syntax.{w16}
use mir.ValLaws.{to_z-of_z}
use Rattle.integers.proofs.Machine.{steps, m_small, m_fits, m_eq}
use Rattle.full_points.proofs.Sides.{whole_side_is}
use Rattle.full_points.proofs.whole_side.Goals as goal

pub overflow_mul-result : goal.overflow_mul-result
overflow_mul-result c = m_fits (search (steps, m_small) depth 60 fits 20000) tt

pub overflow_mul-result-2 : goal.overflow_mul-result-2
overflow_mul-result-2 c = m_fits (search (steps, m_small) depth 60 fits 20000) tt

pub overflow_sub-result : goal.overflow_sub-result
overflow_sub-result c = m_fits (search (steps, m_small) depth 60 fits 20000) tt

pub returns : goal.returns
returns c =
    m_eq (search (steps, m_small) depth 60 fits 20000) tt
    ∙ whole_side_is _ _ _ c.run.ensures.0 c.past.ensures.0 (to_z-of_z w16 _ (search rules)) c.rise.ensures.0 c.past-2.ensures.0 (to_z-of_z w16 _ (search rules))
