-- `segment_crossing::minor` meets its contract: the products fit by the sizes of their factors.
use Rattle.integers.proofs.Machine.{m_fits, m_eq, m_bound}
use Rattle.integers.proofs.Tests.{sized}
use Rattle.segment_crossing.proofs.minor.Goals as goal

pub overflow_mul-result : goal.overflow_mul-result
overflow_mul-result c = m_fits (search sized depth 60 fits 20000) tt

pub overflow_mul-result-2 : goal.overflow_mul-result-2
overflow_mul-result-2 c = m_fits (search sized depth 60 fits 20000) tt

pub overflow_sub-result : goal.overflow_sub-result
overflow_sub-result c = m_fits (search sized depth 60 fits 20000) tt

pub returns : goal.returns
returns c = (m_eq (search sized depth 60 fits 20000) tt, m_bound (search sized depth 60 fits 20000) tt)
