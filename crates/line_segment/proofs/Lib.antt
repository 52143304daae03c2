-- Which file to open for which fact. From another crate: `use Rattle.line_segment.proofs.FILE.{..}`.
--   the statements of specs/Demand, kept                     Promises      says-yes-exactly and its kin
--   the rules' examples, computed                            Examples
--   two answers together; what cannot be                     Booleans      both, no
--   what the test's parts answer, from a branch of the code  Answers       both-on, touch-yes, crossed
--   what the parts of `contains` answer                      Holding       holds-between, in-bounds
--   the order of ends by their coordinates                   Ends          end-order-is
--   numbers of Cramer's rule, read from bits                 CramersRule   back, over-below
--   sides of a line; how steeply two lines cross             Sides         tilt, side-line, one-point
--   Cramer's point                                           CramersPoint  cramer-first, crossing-swapped
--   the order of points along a line                         Along         leads, past-order, weighed
--   a point that lies on a piece, its ends, closed pieces    Lying         lies-inside, closed-of, end-lies
--   two lines: one line, opposite sides                      TwoLines      carried, one-line-turned, inside
--   rightmost and leftmost ends                              Picking       from-both, upto-both
--   the cases of the test                                    Cases         cases
--   pieces of one line                                       Stretches     common-part
--   pieces of lines that cross                               Crossings     lies-touch, astride-common
pub mod Promises
pub mod Examples
pub mod Booleans
pub mod Answers
pub mod Holding
pub mod Ends
pub mod CramersRule
pub mod Sides
pub mod CramersPoint
pub mod Along
pub mod Lying
pub mod TwoLines
pub mod Picking
pub mod Cases
pub mod Stretches
pub mod Crossings
