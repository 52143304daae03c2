-- `ported_ledger::cell_of` meets its contract.
use mathlib.Core.Path.{refl}
use Rattle.ported_arrays.specs.Numbers.{cell}
use Rattle.ported_ledger.proofs.cell_of.Goals as goal

pub returns : goal.returns
unfolding cell
returns c = refl
