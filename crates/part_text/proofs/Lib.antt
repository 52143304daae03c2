-- `Once`: one outcome. What is promised of it stands in the crate listing_parts.
pub mod Once
