-- The folded line: `Folded` is the value of a whole number folded at 0 and H, `Line` the pieces of m times x folded, `Drawing`
-- what a call answers and leaves. `Demand` states what is promised.
-- In quotation marks: docs/CHART.md, folded value, folded line, refusals of a folded line, refusal.
pub mod Folded
pub mod Line
pub mod Drawing
pub mod Demand
