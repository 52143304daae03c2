-- A supplier's list of pairs: `Entries` what is said of its entries and of the pairs it leaves out, for any test of two
-- numbers, `Checking` of a chart. `Marks` is what the code goes by inside. `Demand` states what is promised.
-- In quotation marks: docs/CHART.md, checked list.
pub mod Entries
pub mod Checking
pub mod Marks
pub mod Demand
