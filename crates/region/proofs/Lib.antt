-- The point to the right of a peak: `Right`. What is known of the sides: `Sides`. A result is known by what it says: `Told`.
pub mod Right
pub mod Sides
pub mod EvenOdd
pub mod OnSides
pub mod Elsewhere
pub mod Round
pub mod Senses
pub mod Told
