-- What a run of the ported sweep begins with and what it tells (`Running`), its last point among it (`Last`).
-- In quotation marks: docs/CHART.md, answer of a sweep.
pub mod Last
pub mod Running
