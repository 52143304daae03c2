-- How many adjacent pairs the ported sweep examines, and what is promised of that.
-- In quotation marks: docs/CHART.md, leaving, entering, examining, examined.
pub mod Examined
pub mod Demand
