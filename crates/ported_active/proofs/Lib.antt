-- Which file to open: Moves for those that leave and enter the active list, Ranks for its order.
pub mod Moves
pub mod Ranks
