-- From another crate: `use Rattle.decimals.proofs.FILE.{..}`.
--   bytes put after one another, and where there is room     Puts     put-then, put-front
--   a number's digits: the last one and those in front       Digits   decimal-one, decimal-more
--   the statements of specs/Demand                           Back     reads-back;  Digits  all-digits, no-zero-in-front, short
pub mod Puts
pub mod Digits
pub mod Back
pub mod Once
mod Examples
