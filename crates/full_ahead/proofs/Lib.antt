-- Which file to open. From another crate: `use Rattle.full_ahead.proofs.FILE.{..}`.
--   the statements of specs/Coming, kept          Promises  lane-comes, end-comes, none-comes
--   the queue from the arrays, its least point    Queue     next-is-end, next-is-lane, lane-two; Least: least-is
--   where the block of the next point stands      Block     searched, crossing-block, widened-up
--   the ends at the next point                    Starts    end-starting, end-split; Keyed: sorted-once, min-of
pub mod Least
pub mod Queue
pub mod Keyed
pub mod Starts
pub mod Block
pub mod Promises
