-- `full_points::from_least` meets its contract: no i16 is below -32,768.
use lib.IntN.{pos, ◌+ℤ◌}
use mir.Syntax.{w16, w64}
use mir.Val.{to_z, of_z}
use Rattle.integers.proofs.Machine.{m_fits}
use Rattle.integers.proofs.Tests.{ranged}
use Rattle.integers.proofs.Unsigned.{m_cast, m_size}
use Rattle.full_points.proofs.Spots.{from_least as least, natural_of}
use Rattle.full_points.proofs.from_least.Goals as goal

pub overflow_cast-result : goal.overflow_cast-result
overflow_cast-result c = m_fits (search ranged depth 60 fits 20000) tt

pub overflow_add-result : goal.overflow_add-result
overflow_add-result c = m_fits (search ranged depth 60 fits 20000) tt

pub overflow_cast-result-2 : goal.overflow_cast-result-2
overflow_cast-result-2 c =
    m_cast w64 (to_z w64 (of_z w64 (to_z w64 (of_z w64 (to_z w16 (of_z w16 c.args.x))) +ℤ pos 32768))) (search ranged depth 60 fits 20000) tt (least c.ranges.x)

pub returns : goal.returns
returns c = natural_of (m_size (search ranged depth 60 fits 20000) tt) (least c.ranges.x)
