-- `Once`: one outcome. The lines stand in the crate listing_lines.
pub mod Once
