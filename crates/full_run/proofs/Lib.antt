-- `Running`: the arrays are as after so many steps; `Beginning`: as a run begins with them.
pub mod Running
pub mod Beginning
