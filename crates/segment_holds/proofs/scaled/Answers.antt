-- `segment_holds::scaled` meets its contract: a product of 15 and 33 bits fits.
use Rattle.integers.proofs.Machine.{steps, m_kept, m_fits, m_eq, m_bound}
use Rattle.integers.proofs.Unsigned.{m_under}
use Rattle.segment_holds.proofs.scaled.Goals as goal

pub overflow_cast-result : goal.overflow_cast-result
overflow_cast-result c = m_fits (search (steps, m_kept, m_under) depth 60 fits 20000) tt

pub overflow_mul-result : goal.overflow_mul-result
overflow_mul-result c = m_fits (search (steps, m_kept, m_under) depth 60 fits 20000) tt

pub returns : goal.returns
returns c = (m_eq (search (steps, m_kept, m_under) depth 60 fits 20000) tt, m_bound (search (steps, m_kept, m_under) depth 60 fits 20000) tt)
