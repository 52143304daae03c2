-- From another crate: `use Rattle.listing_parts.proofs.FILE.{..}`.
--   the statements of specs/Demand                 Printed   prints-all, part-fits
--   inside: pairs cut in parts     Cut;   what each branch puts     Cases;   what ends within lent bytes     Within
pub mod Cut
pub mod Cases
pub mod Within
pub mod Printed
pub use Rattle.listing.proofs.Counts
