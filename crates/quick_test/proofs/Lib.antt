-- One outcome: `Once`. The laws are those of naive.
pub mod Once
