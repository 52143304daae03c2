-- What the contracts of passing cite beside `ported_arrays`.
pub mod Passing
