-- `Once`: one outcome. What is promised of it stands in the crate supplied.
pub mod Once
