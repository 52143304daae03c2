-- `ported_pieces::of_numbers` meets its contract: the marks are the fifth number's size.
use mathlib.Core.Path.{◌∙◌}
use Rattle.integers.proofs.Machine.{m_fits, m_eq}
use Rattle.integers.proofs.Tests.{ranged}
use Rattle.integers.proofs.Unsigned.{m_size}
use Rattle.ported_pieces.proofs.Pieces.{by_marks}
use Rattle.ported_pieces.proofs.of_numbers.Goals as goal

pub overflow_cast-kind : goal.overflow_cast-kind
overflow_cast-kind c = m_fits (search ranged depth 60 fits 20000) tt

pub returns : goal.returns
returns c =
    let a = c.args in
    by_marks a.x a.y a.x2 a.y2 a.kind
    (m_eq (search ranged depth 60 fits 20000) tt)
    (m_eq (search ranged depth 60 fits 20000) tt)
    (m_eq (search ranged depth 60 fits 20000) tt)
    (m_eq (search ranged depth 60 fits 20000) tt)
    (c.size-marks.ensures ∙ m_size (search ranged depth 60 fits 20000) tt)
