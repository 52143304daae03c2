-- The next point of the new mode, from the next end and the lanes.
pub mod Next
