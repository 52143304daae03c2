-- What the contracts of a step cite beside `ported_arrays` and `ported_ledger`: what the arrays hold (`Views`), and what a
-- step does with it (`Turns`).
pub mod Views
pub mod Turns
