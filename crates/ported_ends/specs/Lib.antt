-- What the contracts of the ends in order cite beside `ported_arrays`.
pub mod Places
