-- What is promised of the lists of pairs that a caller in C is given: `C`, all that is promised of a sweep; `Supplied`, that they
-- are accepted where they are held to their chart.
pub mod C
pub mod Supplied
