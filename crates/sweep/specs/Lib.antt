-- Module 6, the sweep: its definitions, what it needs of geometry, and what is promised of it.
-- In quotation marks: docs/CHART.md, queue, pieces at a point, reporting, leaving, entering, active order, examining,
-- answer of a sweep, demand 3.
pub mod Lists
pub mod Chart
pub mod State
pub mod Queue
pub mod Step
pub mod Run
pub mod Sought
pub mod Geometry
pub mod Demand
pub mod Ported
