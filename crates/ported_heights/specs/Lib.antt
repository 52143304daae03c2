-- The order of lines that the code works by.
pub mod Heights
