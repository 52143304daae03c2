-- The book and the lent bytes before an examination and after it.
use Rattle.std.specs.Prelude.{◌≡◌, List, ℕ}
use Rattle.ported_arrays.specs.Ledger.{Ledger}
use Rattle.ported_ledger.specs.declared.Book.{Book}
use Rattle.ported_ledger.specs.Books.{ledger_of}

-- the ledger that they hold became what the rule makes of it, whatever the count of pieces
abbrev pub Examined : (ℕ → Ledger → Ledger) → Book → List ℕ → Book → List ℕ → Type 0
Examined rule book bytes book' bytes' = (n : ℕ) → ledger_of book' bytes' ≡ rule n (ledger_of book bytes)
