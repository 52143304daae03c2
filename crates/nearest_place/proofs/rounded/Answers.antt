-- A signed field goes to `quotient` as bits, whose number is the field again.
use mathlib.Core.Path.{ap, ◌∙◌}
use lib.IntN.{ℤ}
use Rattle.integers.proofs.Machine.{m_eq}
use Rattle.integers.proofs.Tests.{ranged}
use Rattle.place.specs.Binary64.{nearest}
use Rattle.place.specs.Place.{nearest_point}
use Rattle.nearest_place.proofs.rounded.Goals as goal

pub returns : goal.returns
unfolding nearest_point
returns c =
    let d = c.args.p.d in
    let x = c.quotient.ensures ∙ ap (λ (z : ℤ). nearest z d) (m_eq (search ranged depth 60 fits 20000) tt) in
    let y = c.quotient-2.ensures ∙ ap (λ (z : ℤ). nearest z d) (m_eq (search ranged depth 60 fits 20000) tt) in
    λ i. record { x = x i; y = y i }
