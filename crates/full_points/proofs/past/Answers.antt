-- `full_points::past` meets its contract.
use Rattle.integers.proofs.Machine.{steps, m_kept, m_fits, m_eq, m_bound}
use Rattle.integers.proofs.Unsigned.{m_under}
use Rattle.full_points.proofs.past.Goals as goal

pub overflow_cast-result-2 : goal.overflow_cast-result-2
overflow_cast-result-2 c = m_fits (search (steps, m_kept, m_under) depth 60 fits 20000) tt

pub overflow_add-result : goal.overflow_add-result
overflow_add-result c = m_fits (search (steps, m_kept, m_under) depth 60 fits 20000) tt

pub overflow_sub-result : goal.overflow_sub-result
overflow_sub-result c = m_fits (search (steps, m_kept, m_under) depth 60 fits 20000) tt

pub returns : goal.returns
returns c = (m_eq (search (steps, m_kept, m_under) depth 60 fits 20000) tt, m_bound (search (steps, m_kept, m_under) depth 60 fits 20000) tt)
