-- What is promised of the next point of a run, told from the arrays.
pub mod Coming
