-- That a contract allows one result, for those who stand on charts.
pub use Rattle.integers.specs.Outcome.{OneResult, OneOutcome}
