-- What the contracts of a batch cite.
pub use Rattle.batch.specs.Batch
