-- Which file to open for which goal. From another crate: `use Rattle.fractions.proofs.FILE.{..}`.
--   an answer Less, Equal or Greater of whole numbers    Orders        order-less, less-order, answer, order-turned
--   the order of x over d and y over e                   Ratios        ratio-turned, ratio-trans, ratio-alike
--   the order of points                                  Points        point-turned, point-trans, point-alike, places
--   lowest terms                                         LowestTerms   lowest-lowest, lowest-same, one-record
--   the greatest common divisor                          Euclid        gcd-greatest, greatest-one, gcd-scaled
--   its quotients, and a number by sign and size         Quotient      quot-size, quot-times, same-record
--   whole parts, floors and remainders, from the code    WholeParts    whole-apart, first-whole, floor-apart, turned-over
--   the lines of pencil and paper                        Turns         last-says, lines-few, shorter
pub mod Orders
pub mod Ratios
pub mod Points
pub mod Euclid
pub mod LowestTerms
pub mod Quotient
pub mod WholeParts
pub mod Turns
pub mod Promises
mod Examples
