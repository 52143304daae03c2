-- What the contracts of an end alone cite.
pub mod Alone
