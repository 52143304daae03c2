-- One outcome, of what is in use.
-- In quotation marks: docs/CHART.md, one outcome.
pub mod Once
