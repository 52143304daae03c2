-- `Once`: one outcome. What is promised of it stands in the crate folded_line.
pub mod Once
