-- Which file to open for which fact. From another crate: `use Rattle.full_lanes.proofs.FILE.{..}`.
--   a lane from the code's branches               Laning   lane-crossing, lane-any, first-lesser
--   the least of the lanes                        Least    left-by-x, scan-takes, scan-ends
--   the statements of specs/Demand, kept          Promises beside-keyed, least-is-ahead
--   why the slope is asked first                  Steeper  open-steeper, slope-enough
pub mod Laning
pub mod Least
pub mod Promises
pub mod Steeper
