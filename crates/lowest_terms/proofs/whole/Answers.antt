-- `lowest_terms::whole` meets its contract: an i64 holds every i16.
use mathlib.Core.Path.{refl}
use Rattle.integers.proofs.Machine.{m_fits, m_eq}
use Rattle.integers.proofs.Tests.{ranged}
use Rattle.fractions.proofs.Quotient.{same_record}
use Rattle.lowest_terms.proofs.whole.Goals as goal

pub overflow_cast-result : goal.overflow_cast-result
overflow_cast-result c = m_fits (search ranged depth 60 fits 20000) tt

pub overflow_cast-result-2 : goal.overflow_cast-result-2
overflow_cast-result-2 c = m_fits (search ranged depth 60 fits 20000) tt

pub returns : goal.returns
returns c = same_record (m_eq (search ranged depth 60 fits 20000) tt) (m_eq (search ranged depth 60 fits 20000) tt) refl
