-- What the new mode's call answers.
-- In quotation marks: docs/CHART.md, new answer, refusal, room.
pub mod Swept
