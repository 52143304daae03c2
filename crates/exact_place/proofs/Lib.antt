-- `Once`: one outcome. What is promised of it stands in the crate place.
pub mod Once
