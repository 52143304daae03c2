-- `kind_at`: each return stands at the kind that its tests lead to.
use mathlib.Core.Path.{◌≡◌, sym, ap, ◌∙◌}
use Prim.Native.Nat.{◌+◌}
use native.Mathlib.Omega.{arith}
use lib.IntN.{ℤ, pos}
use lib.ListN.{get_or}
use mir.Syntax.{w32}
use mir.Val.{to_z, of_z}
use Rattle.std.proofs.lemmas.Int.{ints, to_z-of_z}
use Rattle.std.proofs.lemmas.Result.{err_from_is_err_and}
use Rattle.charts.specs.declared.Reason.TheVariants.{FileEnds}
use Rattle.chart_file.specs.Found.{Read}
use Rattle.chart_file.proofs.Bytes.{byte_there, byte_due}
use Rattle.chart_file.proofs.Numbers.{kind_due, kind_wrong, kind_right}
use Rattle.file_numbers.proofs.kind_at.Goals as goal

pub returns-in_err-kind : goal.returns-in_err-kind
returns-in_err-kind c =
    let a = c.args in
    let p = err_from_is_err_and c.from_residual.result c.from_residual.ensures.1 in
    let d = byte_due a.file.now a.at FileEnds _ c.in_err-kind.ensures in
    rw (p.1, p.2, d.1) (sym (kind_due a.file.now a.at d.0))

pub returns-then-kind-gt3 : goal.returns-then-kind-gt3
returns-then-kind-gt3 c =
    let a = c.args in
    let b = byte_there a.file.now a.at FileEnds _ c.in_ok-kind.ensures in
    sym (kind_wrong a.file.now a.at b.0 (omega (arith, b.1)))

pub overflow_add-result : goal.overflow_add-result
overflow_add-result c =
    let b = byte_there c.args.file.now c.args.at FileEnds _ c.in_ok-kind.ensures in
    record { fits = omega arith }

pub returns : goal.returns
returns c =
    let a = c.args in
    let b = byte_there a.file.now a.at FileEnds _ c.in_ok-kind.ensures in
    let k : to_z w32 (of_z w32 c.from.result) ≡ pos (get_or a.file.now a.at 0) = grind (arith, ints, to_z-of_z) in
    ap (λ (z : ℤ). Read z (a.at + 1)) k ∙ sym (kind_right a.file.now a.at b.0 (omega (arith, b.1)))
