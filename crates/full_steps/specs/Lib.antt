-- The new mode of the sweep: its step, which loses nothing on any chart, upright pieces or not.
pub mod Steps
pub mod InPlace
pub mod Demand
