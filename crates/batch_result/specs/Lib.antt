-- What the contracts of a result cite, and those of the crates above.
pub use Rattle.batch.specs.Numbers
pub use Rattle.batch.specs.Single
