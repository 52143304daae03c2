-- The sweep on pieces with integer ends: the order in which nothing is lost on any chart, and what is promised.
-- In quotation marks: docs/CHART.md, demand 3, first common point.
pub mod Full
pub mod Demand
