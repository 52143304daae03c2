-- What the contracts of the new mode's active list cite.
pub mod Parts
pub mod Ranks
pub mod Replaced
