-- The ledger that the code's arrays hold: the waiting pairs stand from `head` to the end of theirs.
use Rattle.std.specs.Prelude.{List, ℕ, drop}
use Rattle.ported_arrays.specs.Ledger.{Ledger}

abbrev pub book : List ℕ → List ℕ → ℕ → List ℕ → ℕ → Ledger
book marks waiting spare bytes end = record { marks = marks; waiting = waiting; spare = spare; bytes = bytes; end = end }

abbrev pub ledger : List ℕ → List ℕ → ℕ → List ℕ → ℕ → Ledger
ledger marks waiting head bytes end = book marks (drop head waiting) head bytes end
