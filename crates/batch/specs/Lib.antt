-- What is right of several charts in one call: `Single` is the call made of each, `Numbers` its result in numbers, `Charts`
-- lays charts end to end, `Batch` says what the call answers and leaves,
-- and `Demand` what is promised of that.
-- In quotation marks: docs/CHART.md, batch, result in numbers, refusals of a batch, refusal.
pub mod Numbers
pub mod Single
pub mod Charts
pub mod Batch
pub mod Demand
