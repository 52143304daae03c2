-- What the contracts of the active list cite beside the definitions of `ported_arrays`.
pub mod Roles
