-- What the contracts of a visit cite.
pub mod Visit
pub use Rattle.full_at_point.specs.Carried
