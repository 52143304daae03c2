-- `ported_pieces::number` meets its contract: past the end of a list its default stands.
use mathlib.Core.Path.{sym}
use native.Mathlib.Omega.{arith}
use lib.IntN.{pos}
use lib.ListN.{get_or-eq_default}
use Rattle.ported_pieces.proofs.number.Goals as goal

pub returns-else-at-table : goal.returns-else-at-table
returns-else-at-table c = sym (get_or-eq_default c.args.table.now (pos 0) (omega arith))
