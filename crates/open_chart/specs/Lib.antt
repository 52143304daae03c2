-- A chart that stays open: `Memory` says what stands in lent memory, whatever its numbers are, `Changes` what the calls that
-- change it answer and leave, `Listing` what a listing answers and leaves. `Model` is a day of changes without the calls.
-- `Demand` states what is promised.
-- In quotation marks: docs/CHART.md, open chart, open changes, open listing, refusals of an open chart.
pub mod Memory
pub mod Changes
pub mod Listing
pub mod Model
pub mod Demand
