-- Which file to open for which fact. From another crate: `use Rattle.folded_line.proofs.FILE.{..}`.
--   the folded value, stretch by stretch          Folding     folded-below, rises, falls
--   how many pieces, and where they join          Joints      counts, joint-on, joint-less, joint-last
--   the verdict, by the tests of the code         Verdicts    says, goes, room-goes
--   a run of stores of pieces                     Stores      put-five, put-fives, fives-length
--   what a call answers and leaves                Outcomes    ahead, draws-refused, draws-done
--   points of a piece on a line of known slope    Straight    holds, held-line, held-spans
--   the numbers and the pieces of the list        Numbers     number-of, the-piece
--   which piece holds which point                 Holding     held, held-covers, covers
--   statements of specs/Demand                    Folding, Exactly, Promises
pub mod Folding
pub mod Joints
pub mod Verdicts
pub mod Stores
pub mod Outcomes
pub mod Exactly
pub mod Straight
pub mod Numbers
pub mod Holding
pub mod Promises
pub mod Examples
