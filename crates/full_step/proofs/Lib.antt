-- Which file to open. From another crate: `use Rattle.full_step.proofs.FILE.{..}`.
--   the statements of specs/Demand, kept: a loop over steps      Carrying   step-carries, start-carried
--   the two halves are those of the step done in place           Joined     fresh-pairs-are, new-block-is, in-place-is
--   the lanes after a step stand beside the active pieces        Besides    beside-again
--   .. place by place over the arrays, pair by pair of a state   Relaned, Outer; Staying
--   there is room for the pieces and for the pairs               Fitting    no-more-than, once-fits
--   two neighbours that cross change places                     Crossing   crossable, crossed-steps
--   inside: how many pieces a renewed block has; the whole step  Counts; Turning
pub mod Counts
pub mod Joined
pub mod Outer
pub mod Turning
pub mod Crossing
pub mod Relaned
pub mod Staying
pub mod Fitting
pub mod Besides
pub mod Carrying
