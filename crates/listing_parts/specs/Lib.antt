-- A listing in parts: `Parts` says what stands in each, and `Demand` that they are the listing.
-- In quotation marks: docs/CHART.md, listing, refused line.
pub mod Parts
pub mod Demand
