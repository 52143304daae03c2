-- Which file to open. From another crate: `use Rattle.full_active.proofs.FILE.{..}`.
--   what the calls leave is what the step done in place says     Blocks      places, gathered, renewed, replaced
--   places by a test on members; pieces put in one by one        Places, Reached, Putting
--   inside: members moved along, one put in or taken out         Shifting, Single
--   inside: numbers in order                                     Sorted
pub mod Places
pub mod Reached
pub mod Putting
pub mod Shifting
pub mod Single
pub mod Sorted
pub mod Blocks
