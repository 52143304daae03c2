-- `AtPoint`: the step at a point that is known is that of the run.
pub mod AtPoint
-- Of the crates below, for those above: what a step carries on, and what comes next.
pub use Rattle.full_step.proofs.Joined
pub use Rattle.full_step.proofs.Carrying
pub use Rattle.full_ahead.proofs.Promises
pub use Rattle.full_ahead.proofs.Queue
pub use Rattle.full_ahead.proofs.Starts
