-- `Once`: one outcome. What is promised of it stands in the crate chart_file.
pub mod Once
