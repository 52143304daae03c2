-- The lanes of the new mode as its code holds them: a key for each place of the active list.
pub mod Lanes
pub mod Demand
