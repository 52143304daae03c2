-- From another crate: `use Rattle.plain_order.proofs.FILE.{..}`.
--   the statements of specs/Demand, kept           Promises    first-is-least, before-exactly, lists-in-order, one-order
--   a strict total order of pairs                  Ordering    Positive, before-irr, before-trans, before-total
--   the order by first common points, by numbers   ByPoints    before-exactly, numbers-less, less-numbers
--   the meeting pairs, lesser number first         Outcomes    meeting-in, meeting-out, meeting-once
--   inside: a place found, a pair put, one turn    Numbers, Halves, Places, Puts, Turns
pub mod Numbers
pub mod Halves
pub mod Places
pub mod Puts
pub mod Ordering
pub mod Turns
pub mod First
pub mod ByPoints
pub mod Outcomes
pub mod Promises
pub mod Examples
