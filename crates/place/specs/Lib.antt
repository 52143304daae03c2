-- What is right of the place of a meeting: `Binary64` says what a value owes to a fraction, `Place` defines the place of
-- two pieces, `Pair` the call on ten numbers, and `Demand` states what is promised.
-- In quotation marks: docs/CHART.md, place, along exactly, nearest double, error, no negative zero, pair calls.
pub mod Binary64
pub mod Place
pub mod Pair
pub mod Demand
