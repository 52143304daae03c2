-- Which file to open for which fact. From another crate: `use Rattle.full_order.proofs.FILE.{..}`.
--   the facts of geometry, and those of the step in place    Promises     finer-supplies, finer-geometry, in-place-facts
--   the new mode's promises, of every accepted list          Modes        list-full-sweeps, full-lists-meetings, list-in-place
--   .. and that without upright pieces the modes are one     Modes        same-without-uprights
--   the upright gap, and where the order is finer            Examples     table
--   pieces that do not cross up to p stay in order           Persisting   stays
--   pieces that cross ahead: the first is the steeper        Ahead        steeper; Promises: ahead-steeper
--   pieces below p, through it and above it                  Through      below-first, both-through, above-last
--   the finer order: strict, total, what it says             Slants       finer-ranks, finer-precedes
pub mod Slants
pub mod Persisting
pub mod Through
pub mod Ahead
pub mod Promises
pub mod Modes
mod Examples
