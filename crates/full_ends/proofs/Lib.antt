-- Which file to open for which fact. From another crate: `use Rattle.full_ends.proofs.FILE.{..}`.
--   what the code's numbers come to               Keys     in_i16, key_is, key_more, passed_by, keys_sorted
--   the statements of specs/Demand, kept          Promises keys-order-points, keys-stand, sorted-in-order, next-end
pub mod Keys
pub mod Promises
