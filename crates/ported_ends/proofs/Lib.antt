pub mod Sorted
pub mod Ordering
