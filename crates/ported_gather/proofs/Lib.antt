pub mod Joins
mod Moving
