-- What the queue's contract cites beside `ported_arrays`.
pub mod Next
