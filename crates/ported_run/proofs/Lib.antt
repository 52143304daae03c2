-- `Agreeing`: the arrays of a run agree with the sweep; `Counting`: .. and with the pairs that it examines; `Running`: the arrays
-- are the sheet after each step; `Tallying`: .. and the count is the definition's; `Beginning`: as a run begins with them.
pub mod Agreeing
mod Counting
pub mod Running
pub mod Tallying
pub mod Beginning
