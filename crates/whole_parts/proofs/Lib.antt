-- Each contract allows one result: `Once`. The laws of whole parts and of the lines on the paper are those of fractions
-- (WholeParts, Turns).
pub mod Once
