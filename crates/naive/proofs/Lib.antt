-- From another crate: `use Rattle.naive.proofs.FILE.{..}`.
--   the statements of specs/Demand                 Exactly     lists-exactly, lists-in-order, lists-once
--   rows of pairs, for any test                    Rows, Listed    rows-more, rows-same, rows-say, rows-have
--   a run of stores from the start                 Writes      sets-over
--   pairs read back from their bytes               Reading     read-back
--   what sides say of two pieces                   Apart       beside-apart, across-meet
--   from the code: one turn of the loops, the array, what is left    Turns, Stored, Outcomes
pub mod Rows
pub mod Listed
pub mod Writes
pub mod Reading
pub mod Turns
pub mod Stored
pub mod Apart
pub mod Outcomes
pub mod Exactly
pub mod Examples
