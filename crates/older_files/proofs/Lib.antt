-- The statements of specs/Demand, proved.
pub mod Older
