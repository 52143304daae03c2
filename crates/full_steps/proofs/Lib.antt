-- Which file to open for which fact. From another crate: `use Rattle.full_steps.proofs.FILE.{..}`.
--   every promise, from the facts of geometry    Promises    promises, tells, sweeps, says-complete
--   one step: the next point, who is active      Step        next-soonest, step-inv, step-listed
--   the step done in place is the step           Held        in-place
--   .. the three parts of the active list        Sides: parts; by places, for a bisection: Placed
--   .. the block replaced, the fresh pairs       Replaced: same-active; Fresh: same-listed
--   .. the lanes                                 Lanes       same-lanes; Adjacent: of joined lists
pub mod Step
pub mod Promises
pub mod Sides
pub mod Replaced
pub mod Placed
pub mod Fresh
pub mod Adjacent
pub mod Lanes
pub mod Held
