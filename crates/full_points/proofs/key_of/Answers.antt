-- `full_points::key_of` meets its contract.
use borrow.Author.Rules.{rules}
use mathlib.Core.Path.{sym, ap, ◌∙◌}
use native.Mathlib.Nat.{mod-lt}
use native.Mathlib.Omega.{arith}
use lib.IntN.{ℤ, pos, ◌+ℤ◌, ◌*ℤ◌}
use mir.Syntax.{w64}
use mir.ValLaws.{to_z-of_z}
use Rattle.full_points.proofs.Keys.{key_parts, key_is}
use Rattle.full_points.proofs.Spots.{whole_part, rest_part}
use Rattle.full_points.proofs.key_of.Goals as goal

pub overflow_mul-result : goal.overflow_mul-result
overflow_mul-result c =
    let p = c.args.p in
    let e = c.shifted-x.ensures ∙ ap (λ (z : ℤ). z +ℤ pos 32768 *ℤ pos p.d) (to_z-of_z w64 p.x (search rules)) in
    let w = whole_part c.requires e in
    let r = mod-lt c.shifted-x.result c.requires.positive in
    let q = rest_part c.requires e in
    record { fits = omega (arith, c.requires.small) }

pub overflow_mul-result-2 : goal.overflow_mul-result-2
overflow_mul-result-2 c =
    let p = c.args.p in
    let e = c.shifted-x.ensures ∙ ap (λ (z : ℤ). z +ℤ pos 32768 *ℤ pos p.d) (to_z-of_z w64 p.x (search rules)) in
    let w = whole_part c.requires e in
    let r = mod-lt c.shifted-x.result c.requires.positive in
    let q = rest_part c.requires e in
    record { fits = omega (arith, c.requires.small) }

pub overflow_add-result : goal.overflow_add-result
overflow_add-result c =
    let p = c.args.p in
    let e = c.shifted-x.ensures ∙ ap (λ (z : ℤ). z +ℤ pos 32768 *ℤ pos p.d) (to_z-of_z w64 p.x (search rules)) in
    let w = whole_part c.requires e in
    let r = mod-lt c.shifted-x.result c.requires.positive in
    let q = rest_part c.requires e in
    record { fits = omega (arith, c.requires.small) }

pub overflow_cast-result : goal.overflow_cast-result
overflow_cast-result c =
    let p = c.args.p in
    let e = c.shifted-x.ensures ∙ ap (λ (z : ℤ). z +ℤ pos 32768 *ℤ pos p.d) (to_z-of_z w64 p.x (search rules)) in
    let w = whole_part c.requires e in
    let r = mod-lt c.shifted-x.result c.requires.positive in
    let q = rest_part c.requires e in
    record { fits = omega (arith, c.requires.small) }

pub returns : goal.returns
returns c =
    let p = c.args.p in
    let e = c.shifted-x.ensures ∙ ap (λ (z : ℤ). z +ℤ pos 32768 *ℤ pos p.d) (to_z-of_z w64 p.x (search rules)) in
    sym (key_parts c.shifted-x.result p.d c.requires.positive) ∙ key_is p e
