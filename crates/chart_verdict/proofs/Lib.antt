-- Each contract allows one result: `Once`. The laws are those of charts.
pub mod Once
