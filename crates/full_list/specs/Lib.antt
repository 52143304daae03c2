-- What the contracts of the new mode's list cite.
pub mod Listed
