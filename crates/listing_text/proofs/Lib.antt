-- `Once`: one outcome. What is promised of it stands in the crate listing.
pub mod Once
