-- What the contracts of the pieces at a point cite beside `ported_arrays`.
pub mod Joined
