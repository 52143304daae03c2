-- `Once`: each function of the ported sweep that works on lent arrays has one outcome in what is in use; `Parts`: so has each
-- function, of those from which the other calls are built, whose contract is an equation.
pub mod Once
pub mod Parts
