-- What is right of a chart that is given as a list of numbers: `Verdict` is what can be said of a list, `Refusal` the code's
-- words for it, `Fault` judges one piece, `Chart` the list, `Piece` makes its pieces, `Answer` gives the numbers and counts
-- that calls return, `Pair` is for the calls on two pieces, `PairList` for lists of pairs. `Demand` states what
-- is promised, and `Outcome` that a contract allows one result.
-- In quotation marks: docs/CHART.md, pieces, range, upright, some length, refusal, calls on a list, places in a list,
-- pair calls, room.
pub mod Verdict
pub mod Refusal
pub mod Fault
pub mod Chart
pub mod Piece
pub mod Answer
pub mod Pair
pub mod PairList
pub mod Demand
pub mod Outcome
