-- The order of the active list in the new mode, finer than the ported mode's, and what is promised of it.
-- In quotation marks: docs/CHART.md, new active order, both modes.
pub mod Finer
pub mod Demand
