-- What the contract of a run cites.
pub use Rattle.full_run.specs.Running
