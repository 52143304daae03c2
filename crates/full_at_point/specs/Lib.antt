-- What the contracts of a step at a known point cite.
pub mod AtPoint
pub use Rattle.full_step.specs.Carried
pub use Rattle.full_ahead.specs.Coming
