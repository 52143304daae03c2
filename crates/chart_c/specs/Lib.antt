-- What the contracts of the two calls over the new mode cite, for those who link to them.
pub use Rattle.full_sweep.specs.Swept
pub use Rattle.sweep_batch.specs.Batch
