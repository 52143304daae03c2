-- What is promised of all pairs and of the sweep, over what a caller has: the fields returned, and the bytes lent. `Refusals` for
-- every call, `Chart` the words of geometry, then a file for each call; `Examined` the pairs examined, `Heights` the bounds of
-- heights, `Useless` the useless programs.
-- In quotation marks: docs/CHART.md, done, refusal, room, upright, all pairs, answer of a sweep, first common point, longer
-- budgets, examined, bounds of a height, demand 3, useless programs.
pub mod Refusals
pub mod Chart
pub mod AllPairs
pub mod Sweep
pub mod Examined
pub mod Heights
pub mod Useless
