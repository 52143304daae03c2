-- In quotation marks: docs/CHART.md, region, refusals of a region, refusal.
pub mod Region
pub mod Demand
