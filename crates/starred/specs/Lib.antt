-- The checked examples of docs/CHART.md: the proved set (`Starred`), and the upright gap (`UprightGap`).
-- In quotation marks: docs/CHART.md, Examples.
pub mod Written
pub mod Starred
pub mod UprightGap
