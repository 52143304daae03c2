-- `orientation::determinant` meets its contract: each span is below 2^16 in size, so products and their difference fit.
use Rattle.integers.proofs.Machine.{steps, m_is, m_kept, m_fits, m_eq}
use Rattle.orientation.specs.Turn.{det}
use Rattle.orientation.proofs.determinant.Goals as goal

pub overflow_mul-result : goal.overflow_mul-result
overflow_mul-result c = m_fits (search (steps, m_is, m_kept) depth 60 fits 20000) tt

pub overflow_mul-result-2 : goal.overflow_mul-result-2
overflow_mul-result-2 c = m_fits (search (steps, m_is, m_kept) depth 60 fits 20000) tt

pub overflow_sub-result : goal.overflow_sub-result
overflow_sub-result c = m_fits (search (steps, m_is, m_kept) depth 60 fits 20000) tt

pub returns : goal.returns
unfolding det
returns c =
    let s1 = c.span.ensures in
    let s2 = c.span-2.ensures in
    let s3 = c.span-3.ensures in
    let s4 = c.span-4.ensures in
    let f = c.ranges in
    let f1 = f.x1 in let f2 = f.y1 in let f3 = f.x2 in let f4 = f.y2 in let f5 = f.x3 in let f6 = f.y3 in
    m_eq (search (steps, m_is, m_kept) depth 60 fits 20000) tt
