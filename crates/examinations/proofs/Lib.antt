-- Which file to open for which fact. From another crate: `use Rattle.examinations.proofs.FILE.{..}`.
--   adjacent pairs of a list, counted            Adjacent    adjacent-length
--   a step examines few, and so does a run       Few         counts-skipped, examines-few
--   nothing is examined where the queue is empty Idle        still-to
pub mod Adjacent
pub mod Few
pub mod Idle
