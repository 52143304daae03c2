-- `Assembling` puts the parts of a step together, as the step on arrays has them.
pub mod Assembling
