-- From another crate: `use Rattle.listing.proofs.FILE.{..}`.
--   the statements of specs/Demand                 Counts   swept-to-the-end;  Room   fits;  Early   decided-early;
--                                                  Placed   lines-have-places;  Modes   lists-meetings, as-ported
--   a sweep that has ended stays as it is          Settled   settled
--   how many pairs and steps, how long the lines   Counts   most-room, room-few, lists-only, steps-few;  Room   lines-width
--   what the sweep and the reader say              Sweeps;  Reader
--   inside: what a call leaves                     Outcomes
pub mod Counts
pub mod Placed
pub mod Modes
pub mod Settled
pub mod Room
pub mod Early
pub mod Sweeps
pub mod Reader
pub mod Outcomes
mod Worked
