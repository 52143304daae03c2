-- The points of the new mode as its code holds them.
pub mod Spot
