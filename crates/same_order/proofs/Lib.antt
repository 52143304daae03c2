-- From another crate: `use Rattle.same_order.proofs.FILE.{..}`.
--   a run that keeps its promises lists in plain order      Runs        run-in-order
--   the statements of specs/Demand, kept                    Promises
pub mod Runs
pub mod Promises
