-- `comparison::compare_points` meets its contract: the order by x, then by y.
use mathlib.Core.Path.{ap₂, ◌∙◌}
use lib.IntN.{ℤ}
use Rattle.std.proofs.Common.{rules}
use Rattle.integers.proofs.Machine.{m_eq}
use Rattle.integers.proofs.Tests.{ranged}
use Rattle.fractions.specs.Fraction.{ratio_order}
use Rattle.fractions.specs.Point.{point_order}
use Rattle.fractions.proofs.Orders.{chained}
use Rattle.comparison.proofs.compare_points.Goals as goal

pub returns : goal.returns
unfolding point_order
returns c =
    let s = c.args in
    let first = c.compare_ratios.ensures ∙ ap₂ (λ (x y : ℤ). ratio_order x s.p.d y s.q.d) (m_eq (search ranged depth 60 fits 20000) tt) (m_eq (search ranged depth 60 fits 20000) tt) in
    rw first at (chained c.compare_ratios.result c.then_with.result (ratio_order s.p.y s.p.d s.q.y s.q.d) c.then_with.ensures (λ h. search rules))
