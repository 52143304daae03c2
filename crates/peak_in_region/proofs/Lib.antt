-- `Once`: one outcome. What is promised of it stands in the crate region.
pub mod Once
