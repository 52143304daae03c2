-- `segment_crossing::rise` meets its contract: the span of two i16 is below 2^16 in size.
use mir.Syntax.{w64}
use Rattle.integers.proofs.Machine.{m_is, m_back, m_eq, m_bound}
use Rattle.integers.proofs.Tests.{ranged}
use Rattle.line_segment.specs.Geometry.{rise}
use Rattle.segment_crossing.proofs.rise.Goals as goal

pub returns : goal.returns
unfolding rise
returns c = let r = m_back w64 (m_is c.span.ensures (search ranged depth 60 fits 20000)) in (m_eq r tt, m_bound r tt)
