-- The listing of a chart file: `Listing` says which lines a file has, and `Demand` what is promised.
-- In quotation marks: docs/CHART.md, listing, refused line, longest file.
pub mod Listing
pub mod Demand
pub use Rattle.full_sweep.specs.Swept
