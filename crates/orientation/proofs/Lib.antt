-- From another crate: `use Rattle.orientation.proofs.Signs.{..}`.
--   the turn that a sign of the determinant says   Signs   turn-above, turn-below, turn-neither, turn-by-order
--   each contract allows one result                Once
pub mod Signs
pub mod Once
