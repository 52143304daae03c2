-- What became of files when a chart's most pieces rose from 64 to 200 and the count went into groups (2026-07): `Before` is
-- the reader as it was, and `Demand` says how the two readers agree and differ. In quotation marks: docs/CHART.md, older files.
pub mod Before
pub mod Demand
