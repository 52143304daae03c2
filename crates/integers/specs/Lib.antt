-- What is said of whole numbers in contracts: `Size` bounds a number's size, `Order` answers a comparison. `Outcome`, of any
-- contract, says that it allows one result.
-- The laws stand in proofs/, whose Lib.antt says which file to open for which goal.
pub mod Order
pub mod Size
pub mod Outcome
