-- `full_points::near_side` meets its contract: 17 and 33 bits, and twice 16 and 33, fit.
use mathlib.Core.Path.{sym}
use Rattle.integers.proofs.Machine.{steps, m_small, m_fits, m_eq}
use Rattle.integers.proofs.Unsigned.{m_under}
use Rattle.full_points.proofs.near_side.Goals as goal

pub overflow_mul-result : goal.overflow_mul-result
overflow_mul-result c = m_fits (search (steps, m_small, m_under) depth 60 fits 20000) tt

pub overflow_mul-result-2 : goal.overflow_mul-result-2
overflow_mul-result-2 c = m_fits (search (steps, m_small, m_under) depth 60 fits 20000) tt

pub overflow_mul-result-3 : goal.overflow_mul-result-3
overflow_mul-result-3 c = m_fits (search (steps, m_small, m_under) depth 60 fits 20000) tt

pub overflow_sub-result : goal.overflow_sub-result
overflow_sub-result c = m_fits (search (steps, m_small, m_under) depth 60 fits 20000) tt

pub overflow_add-result : goal.overflow_add-result
overflow_add-result c = m_fits (search (steps, m_small, m_under) depth 60 fits 20000) tt

pub returns : goal.returns
returns c = rw (sym c.run.ensures.0, sym c.rise.ensures.0) (m_eq (search (steps, m_small, m_under) depth 60 fits 20000) tt)
