-- What is right of a chart file: `Found` is what can be said of a place of it, and what of that a result says; `Groups` and
-- `Coordinate` say how a number stands, `Format` what file a chart has, `Reading` what the reader makes of any bytes, and
-- `Demand` and `Early` what is promised of all that.
-- In quotation marks: docs/CHART.md, file, groups, count, plain byte, stored coordinate, longest file, reading order, places
-- in a file, rest of the list.
pub mod Found
pub mod Groups
pub mod Coordinate
pub mod Format
pub mod Reading
pub mod Demand
pub mod Early
pub mod Examples
