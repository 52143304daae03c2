-- What the contracts of examining cite beside `ported_arrays`.
pub mod Examined
