-- `count_at`: each return stands at the count that the groups and the limit lead to.
use mathlib.Core.Path.{sym}
use native.Mathlib.Omega.{arith}
use Rattle.std.proofs.lemmas.Result.{err_from_is_err_and}
use Rattle.chart_file.proofs.Numbers.{count_refused, count_many, count_few}
use Rattle.file_numbers.proofs.count_at.Goals as goal

pub returns-in_err-count : goal.returns-in_err-count
returns-in_err-count c =
    let p = err_from_is_err_and c.from_residual.result c.from_residual.ensures.1 in
    rw (p.1, p.2) (sym (count_refused c.args.file.now _ (sym c.in_err-count.ensures)))

pub returns-then-count : goal.returns-then-count
returns-then-count c =
    let n = c.in_ok-count.count in
    sym (count_many c.args.file.now n.value n.next (sym c.in_ok-count.ensures) (omega (arith, c.if-count.true)))

pub returns : goal.returns
returns c =
    let n = c.in_ok-count.count in
    sym (count_few c.args.file.now n.value n.next (sym c.in_ok-count.ensures) (omega (arith, c.if-count.false)))
