-- `ported_table::put` meets its contract.
use mathlib.Core.Path.{sym}
use lib.Seq.{set_out}
use Rattle.ported_table.proofs.put.Goals as goal

pub returns-else-at-table : goal.returns-else-at-table
returns-else-at-table c = sym (set_out c.args.table.now c.args.at c.args.v c.if-at-table.false)
