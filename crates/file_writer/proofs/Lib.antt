-- `Once`: one outcome. What is promised of it stands in the crate chart_writer.
pub mod Once
