-- The order of points as the chart asks for it.
use mathlib.Core.Path.{◌≡◌, refl, ap, ◌∙◌}
use mathlib.Core.Bool.{true, false}
use Rattle.fractions.specs.Order.{turned}
use Rattle.fractions.specs.Point.{point_order}
use Rattle.std.specs.declared.cmp.Ordering.{Ordering}
use Rattle.std.specs.declared.cmp.Ordering.TheVariants.{Less, Equal, Greater}
use Rattle.fractions.specs.declared.Point.{Point}
use Rattle.fractions.proofs.Points.{point_turned}
use Rattle.sweep.specs.Ported.{is_less}
use Rattle.sweep.proofs.Tests.{clash}

-- q is not less than p: p is at most q
pub at_most : (p q : Point) → is_less (point_order q p) ≡ false → ¬ (point_order p q ≡ Greater)
at_most p q e g =
    let h : point_order q p ≡ Less = point_turned p q ∙ ap turned g in
    clash (ap is_less h) e

pub not_less : (p q : Point) → ¬ (point_order p q ≡ Greater) → is_less (point_order q p) ≡ false
not_less p q f = go (point_order p q) refl
  where
    go : (o : Ordering) → point_order p q ≡ o → is_less (point_order q p) ≡ false
    go Less e = ap is_less (point_turned p q ∙ ap turned e)
    go Equal e = ap is_less (point_turned p q ∙ ap turned e)
    go Greater e = absurd (f e)

pub up_to : (p q : Point) → is_less (point_order p q) ≡ true → ¬ (point_order p q ≡ Greater)
up_to p q e g = clash e (ap is_less g)
