-- `segment_crossing::moment` meets its contract: products of two i16, and their difference, fit.
use Rattle.integers.proofs.Machine.{m_fits, m_eq, m_bound}
use Rattle.integers.proofs.Tests.{ranged}
use Rattle.line_segment.specs.Segment.{moment}
use Rattle.segment_crossing.proofs.moment.Goals as goal

pub overflow_cast-result : goal.overflow_cast-result
overflow_cast-result c = m_fits (search ranged depth 60 fits 20000) tt

pub overflow_cast-result-2 : goal.overflow_cast-result-2
overflow_cast-result-2 c = m_fits (search ranged depth 60 fits 20000) tt

pub overflow_mul-result : goal.overflow_mul-result
overflow_mul-result c = m_fits (search ranged depth 60 fits 20000) tt

pub overflow_cast-result-3 : goal.overflow_cast-result-3
overflow_cast-result-3 c = m_fits (search ranged depth 60 fits 20000) tt

pub overflow_cast-result-4 : goal.overflow_cast-result-4
overflow_cast-result-4 c = m_fits (search ranged depth 60 fits 20000) tt

pub overflow_mul-result-2 : goal.overflow_mul-result-2
overflow_mul-result-2 c = m_fits (search ranged depth 60 fits 20000) tt

pub overflow_sub-result : goal.overflow_sub-result
overflow_sub-result c = m_fits (search ranged depth 60 fits 20000) tt

pub returns : goal.returns
unfolding moment
returns c = (m_eq (search ranged depth 60 fits 20000) tt, m_bound (search ranged depth 60 fits 20000) tt)
