-- `comparison::compare_ratios` meets its contract: the two fractions are x over d and y over e.
use mathlib.Core.Path.{◌∙◌}
use Rattle.comparison.proofs.Crossed.{of_ratios}
use Rattle.integers.proofs.Machine.{m_eq}
use Rattle.integers.proofs.Tests.{ranged}
use Rattle.comparison.proofs.compare_ratios.Goals as goal

pub returns : goal.returns
returns c =
    let a = c.ratio.ensures in
    let b = c.ratio-2.ensures in
    c.compare.ensures
    ∙ of_ratios _ _ (a.0 ∙ m_eq (search ranged depth 60 fits 20000) tt) a.1 (b.0 ∙ m_eq (search ranged depth 60 fits 20000) tt) b.1
