-- Which file to open for which fact. From another crate: `use Rattle.full_points.proofs.FILE.{..}`.
--   the side by whole parts and remainders        Sides    aside-parts, far-above, far-below
--   the spot of a point, an end at a spot         Spots    spot-marks, end-marks, at-both
--   crossings are within the chart                Crossing cramer-charted, charted-between
--   keys and the order of points                  Keys     key-less, key-lowest, marks-lowest
pub mod Sides
pub mod Spots
pub mod Keys
pub mod Crossing
mod Once
