-- `lowest_terms::lowest` meets its contract: by a divisor below 2 nothing changes, by any other each number is divided.
use mathlib.Core.Path.{◌≡◌, refl, ap, ap₂, ◌∙◌}
use Prim.Native.Nat.{ℕ, ◌/◌}
use lib.IntN.{ℤ, pos, nat_abs}
use lib.Signed.{quot_z}
use mir.Syntax.{w64}
use mir.Val.{to_z, of_z}
use mir.ValLaws.{to_z-of_z}
use Rattle.fractions.specs.Divisor.{gcd_of}
use Rattle.fractions.specs.Point.{common, lowest_of}
use Rattle.fractions.proofs.Quotient.{same_record}
use Rattle.fractions.proofs.LowestTerms.{already_lowest}
use Rattle.lowest_terms.proofs.lowest.Goals as goal
use Rattle.lowest_terms.proofs.lowest.Goals.{Start, After-gcd-g}

-- the divisor found, and the numbers read back from their bits
module _ (c : After-gcd-g) where
  abbrev start : Start
  start = c.before.before.before.before

  x_is : to_z w64 (of_z w64 start.args.x) ≡ start.args.x
  x_is = to_z-of_z w64 start.args.x start.ranges.x

  y_is : to_z w64 (of_z w64 start.args.y) ≡ start.args.y
  y_is = to_z-of_z w64 start.args.y start.ranges.y

  g_is : c.gcd-g.result ≡ common start.args.x start.args.y start.args.d
  unfolding common
  g_is =
      c.gcd-g.ensures
      ∙ ap (λ (g : ℕ). gcd_of g start.args.d)
      (c.gcd.ensures
      ∙ ap₂ gcd_of (c.size.ensures ∙ ap nat_abs x_is) (c.size-2.ensures ∙ ap nat_abs y_is))

pub returns-then-g-lt2 : goal.returns-then-g-lt2
returns-then-g-lt2 c = same_record (x_is c.before) (y_is c.before) refl ∙ already_lowest _ _ _ (rw (g_is c.before) at c.if-g-lt2.true)

pub returns : goal.returns
unfolding lowest_of
returns c =
    let g = g_is c.before.before.before in
    same_record
    (to_z-of_z w64 c.part.result (record { sfits = c.part.type_inv }) ∙ c.part.ensures ∙ ap₂ (λ (x : ℤ) (n : ℕ). quot_z x (pos n)) (x_is c.before.before.before) g)
    (to_z-of_z w64 c.part-2.result (record { sfits = c.part-2.type_inv }) ∙ c.part-2.ensures ∙ ap₂ (λ (y : ℤ) (n : ℕ). quot_z y (pos n)) (y_is c.before.before.before) g)
    (ap (λ (n : ℕ). (start c.before.before.before).args.d / n) g)
