-- `Once`: one outcome. What is promised of it stands in the crate plain_order.
pub mod Once
