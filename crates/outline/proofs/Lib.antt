-- From another crate: `use Rattle.outline.proofs.FILE.{..}`.
--   what `first` finds               First       found, none, more, find_or
--   the verdict, test by test        Verdicts    an-outline, off-corner, accepted
--   the peak of an accepted outline  Peaks       peak-x, peak-below
--   statements of specs/Demand        Exactly, Accepted
--   each contract allows one result  Once
pub mod First
pub mod Verdicts
pub mod Peaks
pub mod Exactly
pub mod Accepted
pub mod Once
