-- The ledger that a book holds, with its list in these bytes.
use Rattle.std.specs.Prelude.{List, ℕ}
use Rattle.ported_arrays.specs.Ledger.{Ledger}
use Rattle.ported_ledger.specs.Views.{ledger}
use Rattle.ported_ledger.specs.declared.Book.{Book}

abbrev pub ledger_of : Book → List ℕ → Ledger
ledger_of b bytes = ledger b.marks b.waiting b.head bytes b.end
