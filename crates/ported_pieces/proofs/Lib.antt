-- Which file to open for which goal. From another crate: `use Rattle.ported_pieces.proofs.FILE.{..}`.
--   what the sweep on arrays asks of a chart       Ordering    ordered
--   a piece of the array from its five numbers     Pieces      the-piece
--   an end by its number                           Ends        the-end, end-at-is
--   Cramer's point compares as the crossing        Crossings   lowest-alike, rough-before, alike-rough
pub mod Pieces
pub mod Ends
pub mod Crossings
pub mod Ordering
mod Once
