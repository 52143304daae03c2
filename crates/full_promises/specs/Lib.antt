-- What is promised of the new mode's call, over what a caller has, and of the two modes beside each other.
-- In quotation marks: docs/CHART.md, new answer, both modes.
pub mod Sweep
