-- What the contracts of the waiting pairs cite beside `ported_arrays`.
pub mod Places
