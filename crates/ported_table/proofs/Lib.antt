-- The array filled from a list has its pieces: `filled_pieces`.
pub mod Filling
