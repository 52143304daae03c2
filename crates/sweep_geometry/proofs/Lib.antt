-- Which file to open for which fact. From another crate: `use Rattle.sweep_geometry.proofs.FILE.{..}`.
--   the statements of specs/Demand, kept             Promises, Accepted, FirstCommon
--   the record `Geometry` of sweep                   Supply       geometry, points-ordered, reduced
--   the upright gap with nothing lost, computed      Examples
--   .. of which orders                               Supply       Ranks
--   of three pieces the middle one                   Squeeze      squeeze
--   two pieces that have turned round cross          Turning      turning, upright-cross, cross-in
--   what "before" says of where pieces lie           Preceding    Precedes, precedes
--   upright pieces, and points of one x              Uprights     standing-x, higher, lower
--   the active list's order: strict and total        Heights      full-trans, full-total, ported-trans, ported-total
--   .. whatever the height and the slope             Ranking      rank-trans, rank-total
--   how much higher one piece is than another        Gap          gap, gap-first, gap-second
--   the order of slopes                              Slopes       slope-orders, lean-orders
--   comparisons that order                           Comparisons  fraction-orders, then-orders, order-scaled
pub mod Comparisons
pub mod Gap
pub mod Slopes
pub mod Ranking
pub mod Heights
pub mod Points
pub mod Preceding
pub mod Uprights
pub mod Turning
pub mod Squeeze
pub mod Aligned
pub mod Supply
pub mod Promises
pub mod FirstCommon
pub mod Examples
pub mod Accepted
