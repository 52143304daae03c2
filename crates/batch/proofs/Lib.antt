-- From another crate: `use Rattle.batch.proofs.FILE.{..}`.
--   the statements of specs/Demand                     Promises
--   the single call keeps the length of what is lent   Single
--   what is read in a result's numbers                 Reading
--   part i and result i of charts end to end           Each
--   inside: sums and refusals, a result's length, charts end to end, what is answered   Fitting, Stores, Laying, Answering
pub mod Fitting
pub mod Stores
pub mod Laying
pub mod Answering
pub mod Reading
pub mod Single
pub mod Each
pub mod Promises
pub mod Examples
