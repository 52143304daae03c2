-- `ported_ledger::set_mark` meets its contract.
use mathlib.Core.Path.{sym}
use lib.Seq.{set_out}
use Rattle.ported_ledger.proofs.set_mark.Goals as goal

pub returns-else-c-marks : goal.returns-else-c-marks
returns-else-c-marks c = sym (set_out c.args.marks.now c.args.c c.args.mark c.if-c-marks.false)
