-- `segment_holds::same_plain` meets its contract: the products fit, so their bits are equal where they are.
use lib.IntN.{◌*ℤ◌}
use Rattle.integers.proofs.Machine.{m_fits, m_eq}
use Rattle.integers.proofs.Tests.{sized}
use Rattle.line_segment.proofs.Holding.{bits, plain_tells}
use Rattle.segment_holds.proofs.same_plain.Goals as goal

pub overflow_mul-result : goal.overflow_mul-result
overflow_mul-result c = let small = c.requires in m_fits (search sized depth 60 fits 20000) tt

pub overflow_mul-result-2 : goal.overflow_mul-result-2
overflow_mul-result-2 c = let small = c.requires in m_fits (search sized depth 60 fits 20000) tt

pub returns : goal.returns
returns c =
    let a = c.args in
    let small = c.requires in
    plain_tells (bits a.p *ℤ bits a.q) (bits a.u *ℤ bits a.v)
    (m_fits (search sized depth 60 fits 20000) tt) (m_fits (search sized depth 60 fits 20000) tt)
    (m_eq (search sized depth 60 fits 20000) tt) (m_eq (search sized depth 60 fits 20000) tt)
