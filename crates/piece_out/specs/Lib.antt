-- A piece taken out of a chart, or put in: `Cut` what that does to the numbers and to a list of pairs, `Demand` what is promised.
-- In quotation marks: docs/CHART.md, a piece taken out.
pub mod Cut
pub mod Demand
