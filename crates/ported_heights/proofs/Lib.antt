-- Which file to open for which goal. From another crate: `use Rattle.ported_heights.proofs.FILE.{..}`.
--   an answer as a Bool; the same point            Answers     is-less-than, neither-less
--   heights by the place where lines meet          Lines       both-sloped and its kin
pub mod Answers
pub mod Lines
