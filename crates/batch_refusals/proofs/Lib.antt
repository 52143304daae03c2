-- What the proofs of the call ask for, from crate batch.
pub use Rattle.batch.proofs.Answering
pub use Rattle.batch.proofs.Laying
