-- What the contracts of the ledger cite beside `ported_arrays`.
pub mod Views
pub mod Books
