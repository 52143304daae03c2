-- What it is for numbers to be in order.
pub mod Rising
