-- `Runs`: what the promises of crate promises ask of a run, from what is promised of the run itself. `Full`: the promises of
-- the new mode, kept. `C`: of its call for C. `Supplied`: its list as a supplier's.
mod Runs
pub mod Full
pub mod C
pub mod Supplied
