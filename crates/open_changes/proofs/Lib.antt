-- `Once`: one outcome. What is promised of it stands in the crate open_chart.
pub mod Once
