-- `ported_passing::set_flag` meets its contract.
use mathlib.Core.Path.{sym}
use lib.Seq.{set_out}
use Rattle.ported_passing.proofs.set_flag.Goals as goal

pub returns-else-i-flags : goal.returns-else-i-flags
returns-else-i-flags c = sym (set_out c.args.flags.now c.args.i 1 c.if-i-flags.false)
