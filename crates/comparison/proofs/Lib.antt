-- `Crossed`: the order of two fractions by their signs, from a branch of the code. `Once`: one result. The laws of the
-- order are those of fractions.
pub mod Crossed
pub mod Once
