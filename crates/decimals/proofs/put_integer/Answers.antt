-- `decimals::put_integer` meets its contract: the sign, where there is one, and the digits of the size.
use mathlib.Core.Path.{ap, ◌∙◌}
use mathlib.Core.List.{◌∷◌}
use Prim.Native.Nat.{ℕ}
use lib.IntN.{nat_abs}
use mir.Facts.{to_z-of_z}
use Rattle.integers.proofs.Tests.{ranged, m_yes, m_no}
use Rattle.decimals.specs.Decimal.{minus, decimal}
use Rattle.decimals.proofs.Puts.{put_then, put_as}
use Rattle.decimals.proofs.Digits.{negative_decimal, natural_decimal}
use Rattle.decimals.proofs.put_integer.Goals as goal

pub returns-then-z-lt0 : goal.returns-then-z-lt0
returns-then-z-lt0 c =
    put_as _ _ _ (put_then _ _ _ c.put_byte-next.ensures c.put_natural.ensures)
    (ap (λ (n : ℕ). minus ∷ decimal n) (c.size.ensures ∙ ap nat_abs (to_z-of_z c.ranges.z)) ∙ negative_decimal c.args.z (m_yes c.if-z-lt0.true (search ranged depth 60 fits 20000) tt))

pub returns : goal.returns
returns c =
    put_as _ _ _ c.put_natural-2.ensures
    (ap decimal (c.size-2.ensures ∙ ap nat_abs (to_z-of_z c.ranges.z)) ∙ natural_decimal c.args.z (m_no c.if-z-lt0.false (search ranged depth 60 fits 20000) tt))
