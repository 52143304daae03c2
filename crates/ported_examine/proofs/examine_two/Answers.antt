-- `ported_examine::examine_two` meets its contract.
use mathlib.Core.Path.{sym, ap, ◌∙◌}
use Rattle.ported_pieces.specs.Table.{chart_in}
use Rattle.sweep.specs.Lists.{Pair}
use Rattle.ported_arrays.specs.Ledger.{examine}
use Rattle.ported_ledger.specs.Books.{ledger_of}
use Rattle.ported_examine.proofs.Examinations.{lesser_yes, lesser_no}
use Rattle.ported_examine.proofs.examine_two.Goals as goal

pub returns-then-a-b : goal.returns-then-a-b
returns-then-a-b c n =
    c.examine_pair.ensures n
    ∙ ap (λ (q : Pair). examine (chart_in n c.args.table.now) c.args.p q (ledger_of c.args.book.now c.args.bytes.now)) (sym (lesser_yes c.args.a c.args.b c.if-a-b.true))

pub returns-else-a-b : goal.returns-else-a-b
returns-else-a-b c n =
    c.examine_pair-else-a-b.ensures n
    ∙ ap (λ (q : Pair). examine (chart_in n c.args.table.now) c.args.p q (ledger_of c.args.book.now c.args.bytes.now)) (sym (lesser_no c.args.a c.args.b c.if-a-b.false))
