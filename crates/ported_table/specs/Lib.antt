-- The array of pieces, filled from a list.
pub mod Filled
