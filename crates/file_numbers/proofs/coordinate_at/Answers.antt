-- `coordinate_at`: each return stands at the coordinate that the groups and the range lead to.
use mathlib.Core.Path.{sym, ap, ◌∙◌}
use lib.IntN.{ℤ}
use mir.Syntax.{w32}
use mir.Facts.{to_z-of_z}
use Rattle.std.proofs.lemmas.Result.{err_from_is_err_and}
use Rattle.chart_file.specs.Found.{Read}
use Rattle.chart_file.proofs.Numbers.{coordinate_fault, coordinate_wrong, coordinate_right}
use Rattle.file_numbers.proofs.coordinate_at.Goals as goal

pub returns-in_err-stored : goal.returns-in_err-stored
returns-in_err-stored c =
    let p = err_from_is_err_and c.from_residual.result c.from_residual.ensures.1 in
    rw (p.1, p.2) (sym (coordinate_fault c.args.file.now c.args.at _ (sym c.in_err-stored.ensures)))

pub returns-then-stored-gt-WIDEST : goal.returns-then-stored-gt-WIDEST
returns-then-stored-gt-WIDEST c =
    let u = c.in_ok-stored.stored in
    sym (coordinate_wrong c.args.file.now c.args.at u.value u.next (sym c.in_ok-stored.ensures) c.if-stored-gt-WIDEST.true)

pub returns : goal.returns
returns c =
    let u = c.in_ok-stored.stored in
    ap (λ (z : ℤ). Read z u.next) (to_z-of_z {w = w32} (record { sfits = c.signed.type_inv }) ∙ c.signed.ensures)
    ∙ sym (coordinate_right c.args.file.now c.args.at u.value u.next (sym c.in_ok-stored.ensures) c.if-stored-gt-WIDEST.false)
