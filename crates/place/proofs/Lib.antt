-- From another crate: `use Rattle.place.proofs.FILE.{..}`.
--   what a rounded fraction promises               Promises    near, same; over Gap, Units, Apart, Values, Rounding
--   one division rounds once                       Division    one-division
--   a point on a piece, in size                    Inside      x-inside, y-inside; over Order, Between
--   a crossing's lines are not parallel            Parallel    no-crossing
--   the pieces of a list, of a call                Given       given-in-range;  Typed  typed-piece
--   where two i16 pieces meet                      Held        meeting-in, crossing-held, held-known
--   each point of a place                          Points      All, along-all
--   statements of specs/Demand                     Sharing, Due; computed: Examples
pub mod Gap
pub mod Units
pub mod Apart
pub mod Values
pub mod Rounding
pub mod Promises
pub mod Division
pub mod Order
pub mod Between
pub mod Inside
pub mod Parallel
pub mod Given
pub mod Typed
pub mod Sharing
pub mod Points
pub mod Held
pub mod Due
pub mod Examples
