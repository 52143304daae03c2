-- The lines of a listing, as docs/CHART.md prints them.
-- In quotation marks: docs/CHART.md, listing, overlap line.
pub mod Lines
