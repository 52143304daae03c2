-- What the contracts of a step and its two halves cite, and the relation that it keeps between the arrays and the state.
pub mod Halves
pub mod Carried
pub mod Whole
pub mod Crossed
pub mod Demand
