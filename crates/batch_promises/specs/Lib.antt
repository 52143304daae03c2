-- What is promised of each chart of a batch.
-- In quotation marks: docs/CHART.md, batch.
pub mod Sweep
