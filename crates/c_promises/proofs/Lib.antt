-- `C`: the calls for C allow what is promised of, and the promises over its fields. `Supplied`: the library's own lists, as a
-- supplier's. `FullSweep`: what the new mode's call for C is held to, for the crates above.
pub mod C
pub mod Supplied
pub use Rattle.chart_c.proofs.mirtalughe_full_sweep.Reads as FullSweep
