-- What a run of the new mode begins with, and what it tells.
pub mod Running
pub use Rattle.full_visit.specs.Carried
