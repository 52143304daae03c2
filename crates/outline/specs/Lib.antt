-- In quotation marks: docs/CHART.md, region, refusals of a region.
pub mod Counting
pub mod Outline
pub mod Demand
