-- A number is read back from its text, with its sign.
-- Assumes nothing.
use mathlib.Core.Path.{◌≡◌, refl, ap, ◌∙◌}
use mathlib.Core.List.{List, [], ◌∷◌}
use Prim.Native.Nat.{ℕ, suc}
use native.Mathlib.Omega.{arith}
use lib.IntN.{ℤ, pos, negsuc}
use borrow.Author.Tests.{ne_eqb}
use Rattle.decimals.specs.Decimal.{minus, decimal, signed_decimal, read, read_after, read_signed}
use Rattle.decimals.specs.Demand.{Digits, ReadsBack}
use Rattle.decimals.proofs.Digits.{all_digits, read_decimal}

-- digits have no sign in front
unsigned : (cs : List ℕ) → Digits cs → read_signed cs ≡ pos (read cs)
unfolding read_signed
unsigned [] h = unfold read_after in refl
unsigned (c ∷ cs) h = rw (ne_eqb c minus (λ e. omega arith))

signed : (z : ℤ) → read_signed (signed_decimal z) ≡ z
unfolding signed_decimal
signed (pos n) = unsigned (decimal n) (all_digits n) ∙ ap pos (read_decimal n)
signed (negsuc n) = unfold read_signed in rw (read_decimal (suc n)) refl

pub reads_back : ReadsBack
reads_back = (read_decimal, signed)
