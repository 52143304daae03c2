-- From another crate: `use Rattle.units.proofs.FILE.{..}`.
--   the statements of specs/Demand         Sides      low-exactly, high-exactly and their kin
--   a whole part and a rest                Division   divided
--   inside: what the code holds            Signed
pub mod Division
pub mod Sides
pub mod Signed
pub mod Once
mod Examples
