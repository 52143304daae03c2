-- Which of two is less, as a Bool.
use mathlib.Core.Path.{◌≡◌, refl, sym, ap, ◌∙◌}
use mathlib.Core.Bool.{Bool, true, false, cond, not, ◌&&◌}
use lib.IntN.{ℤ}
use lib.Signed.{lt_z}
use Rattle.fractions.specs.Order.{order, turned}
use Rattle.fractions.specs.Point.{point_order}
use Rattle.std.specs.declared.cmp.Ordering.{Ordering}
use Rattle.std.specs.declared.cmp.Ordering.TheVariants.{Less, Equal, Greater}
use Rattle.fractions.specs.declared.Point.{Point}
use Rattle.fractions.proofs.Points.{point_turned}
use Rattle.sweep.specs.Ported.{is_less, is_equal}

pub is_less_than : (a b : ℤ) → lt_z a b ≡ is_less (order a b)
unfolding order
is_less_than a b = go (lt_z a b) (lt_z b a)
  where
    go : (s t : Bool) → s ≡ is_less (cond s Less (cond t Greater Equal))
    go true t = refl
    go false true = refl
    go false false = refl

-- two points are the same where neither is less
pub neither_less : (p q : Point) → is_equal (point_order p q) ≡ not (is_less (point_order p q)) && not (is_less (point_order q p))
neither_less p q = go (point_order p q) ∙ ap (λ (o : Ordering). not (is_less (point_order p q)) && not (is_less o)) (sym (point_turned p q))
  where
    go : (o : Ordering) → is_equal o ≡ not (is_less o) && not (is_less (turned o))
    go Less = refl
    go Equal = refl
    go Greater = refl
