-- Each contract allows one result: `Once`. The laws of the test are those of line_segment.
pub mod Once
