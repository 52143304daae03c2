-- The tables of specs/, checked: the answers of both sweeps are computed (`Sweeps`, `Full`), those of the segment test and of all pairs are
-- examples of line_segment and naive.
mod Sweeps
mod Full
pub mod Starred
pub mod UprightGap
