-- The list in plain order is that of a full sweep, in either mode.
-- In quotation marks: docs/CHART.md, plain order.
pub mod Demand
