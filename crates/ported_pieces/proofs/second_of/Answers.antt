-- `ported_pieces::second_of` meets its contract.
use mathlib.Core.Path.{refl}
use Rattle.ported_arrays.specs.Numbers.{pair_of}
use Rattle.ported_pieces.proofs.second_of.Goals as goal

pub returns : goal.returns
unfolding pair_of
returns c = refl
