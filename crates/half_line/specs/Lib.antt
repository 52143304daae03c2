-- In quotation marks: docs/CHART.md, half-line, refusals of a region, refusal.
pub mod HalfLine
pub mod Call
