-- `supplied_check::supplied_of` meets its contract: by the verdict on the chart, then the bytes.
use borrow.Author.Tests.{eq-eqb, ne_eqb}
use mathlib.Core.Path.{sym}
use Rattle.std.proofs.lemmas.Result.{err_from_is_err_and}
use Rattle.supplied.specs.Checking.{supplied_of}
use Rattle.supplied_check.proofs.supplied_of.Goals as goal

pub returns-in_err-n : goal.returns-in_err-n
unfolding supplied_of
returns-in_err-n c =
    let p = err_from_is_err_and c.from_residual.result c.from_residual.ensures.1 in
    rw (p.1, p.2, sym c.in_err-n.ensures)

pub returns-then-bytes-ne0 : goal.returns-then-bytes-ne0
unfolding supplied_of
returns-then-bytes-ne0 c = rw (c.at.ensures, sym c.in_ok-n.ensures, ne_eqb _ _ c.if-bytes-ne0.true)

pub returns : goal.returns
unfolding supplied_of
returns c = rw (sym c.in_ok-n.ensures, eq-eqb _ _ c.if-bytes-ne0.false)
