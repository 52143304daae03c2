-- The list of all pairs that meet: `Pairs` for any test of two numbers, `AllPairs` for a chart. `Decoded` and `Sides` are
-- what the code of all_pairs and quick_test goes by. `Demand` states what is promised.
-- In quotation marks: docs/CHART.md, all pairs, room, refusal.
pub mod Pairs
pub mod AllPairs
pub mod Decoded
pub mod Sides
pub mod Demand
