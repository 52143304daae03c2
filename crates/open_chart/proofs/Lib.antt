-- From another crate: `use Rattle.open_chart.proofs.FILE.{..}`.
--   the statements of specs/Demand                       Promises, Days
--   a place's numbers, and what they say of it           Puts, Alters, Contents
--   the used places, and the lowest free one             Counts, Lowest
--   inside: the loops, the pairs of what was gathered    Fills, Gathers, Renames, Names, Beside, Outcomes
pub mod Lowest
pub mod Fills
pub mod Gathers
pub mod Renames
pub mod Puts
pub mod Outcomes
pub mod Counts
pub mod Names
pub mod Beside
pub mod Alters
pub mod Contents
pub mod Days
pub mod Promises
pub mod Examples
