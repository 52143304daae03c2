-- `decimals::put_natural` meets its contract: the digits of a tenth, and then the last one.
use mathlib.Core.Path.{sym, ap, ◌∙◌}
use mathlib.Core.List.{[], ◌∷◌, ◌++◌}
use Prim.Native.Nat.{ℕ, ◌/◌}
use native.Mathlib.Omega.{arith}
use Rattle.decimals.specs.Decimal.{decimal}
use Rattle.decimals.proofs.Puts.{put_then, put_as}
use Rattle.decimals.proofs.Digits.{decimal_one, decimal_more}
use Rattle.decimals.proofs.+put_natural.Goals as goal

pub returns-then-n-lt10 : goal.returns-then-n-lt10
returns-then-n-lt10 t c =
    put_as _ _ _ c.put_byte.ensures (ap (λ (d : ℕ). d ∷ []) c.last_digit.ensures ∙ sym (decimal_one c.args.n (omega arith)))

pub returns : goal.returns
returns t c =
    put_as _ _ _ (put_then _ _ _ c.put_natural-next.ensures c.put_byte-2.ensures)
    (ap (λ (d : ℕ). decimal (c.args.n / 10) ++ (d ∷ [])) c.last_digit-2.ensures ∙ sym (decimal_more c.args.n (omega arith)))
