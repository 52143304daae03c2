-- From another crate: `use Rattle.supplied.proofs.FILE.{..}`.
--   the statements of specs/Demand                     Promises, Exactly, Written, Changed
--   bytes as they stand, and greater number first      Sides
--   inside: one entry's fault, one mark more, the first of what is found, what is said then   Entries, Marks, Firsts, Outcomes, Refusals
pub mod Firsts
pub mod Entries
pub mod Marks
pub mod Outcomes
pub mod Refusals
pub mod Sides
pub mod Promises
pub mod Exactly
pub mod Written
pub mod Changed
pub mod Examples
