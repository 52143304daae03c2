-- Which file to open for which fact. From another crate: `use Rattle.chart_writer.proofs.FILE.{..}`.
--   the group count from leading zeros            Zeros        counts-groups, by-digits
--   groups put into bytes, one by one             Puts         all-left, one-more, last-one
--   a list's numbers put into bytes               Numbers      all-rest, kind-rest, coordinate-rest, no-rest
--   what a call answers and leaves                Outcomes     goes, writes-refused, writes-done
--   statements of specs/Demand                    Zeros, Promises
pub mod Zeros
pub mod Puts
pub mod Numbers
pub mod Outcomes
pub mod Promises
pub mod Examples
