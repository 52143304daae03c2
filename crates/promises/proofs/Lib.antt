-- `Ported`, `AllPairs`: the promises of the calls, kept. `Sweeping`: those of any sweep, from what is known of its run; a
-- second sweep supplies a `Call`. `Geometry`: the words of specs/Chart and those of the sweep's own chart. `Refusing`: refusals
-- of any call. `Budgets`: how many steps a run does.
pub mod Refusing
pub mod AllPairs
pub mod Geometry
pub mod Budgets
pub mod Sweeping
pub mod Ported
pub mod Examined
pub mod Heights
pub mod Useless
