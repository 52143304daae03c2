-- Which file to open. From another crate: `use Rattle.full_end_alone.proofs.FILE.{..}`.
--   where an end stands alone, its piece that comes in or goes out is the step   Stepping
--   inside: which piece starts there; new pieces settled in their places         Standing; Settling
pub mod Standing
pub mod Settling
pub mod Stepping
