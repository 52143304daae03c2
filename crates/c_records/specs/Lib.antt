-- In quotation marks: docs/CHART.md, refusal, answer of a sweep.
pub mod Numbers
pub mod Meetings
pub mod Places
pub mod Sweeps
pub mod Checks
pub mod Regions
