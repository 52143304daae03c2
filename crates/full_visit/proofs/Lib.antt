-- `Choosing`: which point comes, and the arrays after it.
pub mod Choosing
-- Of the crates below, for those above.
pub use Rattle.full_at_point.proofs.Carrying
pub use Rattle.full_at_point.proofs.Promises
pub use Rattle.full_at_point.proofs.Queue
