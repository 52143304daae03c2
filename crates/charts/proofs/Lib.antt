-- From another crate: `use Rattle.charts.proofs.FILE.{..}`.
--   what is known of an accepted list              Accepted    accepted-most, pieces-as-given, pieces-have-length
--   the verdict where room is lent, any need of it Lent        room-goes, room-refused, room-eight, room-accepted
--   the same where pairs are written down          Listing     listing-goes, listing-refused, listing-eight
--   room, n(n-1), without a product                Room        room-more, room-below, room-least
--   a run of stores                                Stores      sets-append, sets-front
--   statements of specs/Demand                     Rows, Exactly, Lent, Listing, Ten, Accepted
--   from the code: tests on signed numbers, casts  Numbers, Ranges
--   .. the verdict piece by piece, upright pieces  Pieces, Upright
--   a result is known by the verdict that it says  Refusals    told_named, fault_named, numbered
pub mod Rows
pub mod Numbers
pub mod Ranges
pub mod Pieces
pub mod Exactly
pub mod Room
pub mod Accepted
pub mod Lent
pub mod Listing
pub mod Stores
pub mod Ten
pub mod Upright
pub mod Examples
pub mod Refusals
