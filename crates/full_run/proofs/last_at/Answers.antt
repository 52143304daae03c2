-- `full_run::last_at` meets its contract.
use mathlib.Core.Path.{◌≡◌, ap, ◌∙◌}
use lib.IntN.{ℤ}
use mir.Syntax.{w64}
use mir.ValLaws.{to_z-of_z}
use Rattle.std.specs.Prelude.{Some}
use Rattle.fractions.specs.Point.{lowest_of}
use Rattle.fractions.specs.declared.Point.{Point}
use borrow.Author.Tests.{eq-eqb, ne_eqb}
use borrow.Author.Rules.{rules}
use Rattle.full_run.proofs.last_at.Goals as goal

lowest_is : (p : Point) {x y : ℤ} → x ≡ p.x → y ≡ p.y → lowest_of x y p.d ≡ lowest_of p.x p.y p.d
lowest_is p e f k = lowest_of (e k) (f k) p.d

pub returns-then-steps-eq0 : goal.returns-then-steps-eq0
returns-then-steps-eq0 c = rw (eq-eqb _ _ c.if-steps-eq0.true)

pub returns-else-steps-eq0 : goal.returns-else-steps-eq0
returns-else-steps-eq0 c = rw (ne_eqb _ _ c.if-steps-eq0.false) (ap Some (c.lowest.ensures ∙ lowest_is c.args.p (to_z-of_z w64 _ (search rules)) (to_z-of_z w64 _ (search rules))))
