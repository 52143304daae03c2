-- What the contract of the call cites.
pub use Rattle.batch_refusals.specs.Batch
