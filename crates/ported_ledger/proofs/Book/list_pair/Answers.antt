-- `ported_ledger::Book::list_pair` meets its contract.
use mathlib.Core.Path.{refl}
use Rattle.ported_arrays.specs.Ledger.{list}
use Rattle.ported_ledger.proofs.Book.list_pair.Goals as goal

pub returns-clause-listed : goal.returns-clause-listed
unfolding list
returns-clause-listed c =
    let p = c.push-self.ensures in
    rw (c.set_mark.ensures, p.0, p.1, c.cell_of.ensures) refl
