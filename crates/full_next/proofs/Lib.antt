-- Choosing: what each branch of `next_lane` says of the next point.
pub mod Choosing
