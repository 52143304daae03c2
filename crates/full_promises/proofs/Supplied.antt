-- The list of the new mode, run to its end, is accepted by the check of a supplier's list, on every chart.
-- Assumes nothing.
use Rattle.c_promises.specs.Supplied.{SweepAccepted}
use Rattle.c_promises.proofs.Supplied.{sweep_accepted}
use Rattle.full_promises.specs.Sweep.{Full, EveryChart}
use Rattle.full_promises.proofs.Full.{sweep}

pub full_accepted : SweepAccepted Full EveryChart
full_accepted = sweep_accepted Full EveryChart sweep
