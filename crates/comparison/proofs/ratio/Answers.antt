-- `comparison::ratio` meets its contract: a number is its size with its sign.
use mathlib.Core.Path.{◌≡◌, refl, ap, ◌∙◌}
use lib.IntN.{nat_abs}
use mir.Syntax.{w64}
use mir.Val.{to_z, of_z}
use mir.ValLaws.{to_z-of_z}
use Rattle.fractions.specs.Fraction.{above}
use Rattle.fractions.proofs.Quotient.{sign_size}
use Rattle.comparison.proofs.ratio.Goals as goal

pub returns : goal.returns
unfolding above
returns c =
    let x = c.args.x in
    let bits : to_z w64 (of_z w64 x) ≡ x = to_z-of_z w64 x c.ranges.x in
    let is : c.size.result ≡ nat_abs x = c.size.ensures ∙ ap nat_abs bits in
    (rw (bits, is) (sign_size x), refl)
