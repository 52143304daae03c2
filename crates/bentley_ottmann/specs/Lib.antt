-- What the sweep's call answers.
-- In quotation marks: docs/CHART.md, budget, answer of a sweep, refusal, room.
pub mod Swept
