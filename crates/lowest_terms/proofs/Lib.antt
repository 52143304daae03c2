-- Each contract allows one result: `Once`. The laws of lowest terms are those of fractions.
pub mod Once
