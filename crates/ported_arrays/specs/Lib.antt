-- The sweep on arrays, between the definitions of `sweep` and the code. No promise rests on these definitions: they are
-- what the code's inner contracts say, and proofs/ shows that they come to the steps of `sweep`.
pub mod Numbers
pub mod Insertion
pub mod Ledger
pub mod Event
pub mod Run
pub mod Agreement
