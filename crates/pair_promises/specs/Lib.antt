-- What is promised of the calls on points, on two pieces and on a file, over what a caller has: the fields returned, and the
-- numbers lent. `Signs`: those that answer with a sign; `Pair`: the test and the place of two pieces; `OnePlace`: two points
-- that have one place; `Reader`: the reader of a file.
-- In quotation marks: docs/CHART.md, done, refusal, room, rest of the list, reading order, pair calls, order of points, turn,
-- overlap, place, one shared point, along exactly, nearest double.
pub mod Signs
pub mod Pair
pub mod OnePlace
pub mod Reader
