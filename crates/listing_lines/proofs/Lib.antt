-- From another crate: `use Rattle.listing_lines.proofs.FILE.{..}`.
--   how long a line is                             Widths   count-width, complete-width, pair-width
--   inside: pairs in bytes, one after another      Pairs;   units that were found     Found
pub mod Pairs
pub mod Found
pub mod Widths
mod Examples
