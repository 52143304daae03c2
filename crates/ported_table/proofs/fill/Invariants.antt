use mathlib.Core.Path.{◌≡◌}
use Prim.Native.Nat.{◌≤◌}
use lib.ListN.{length}
use Rattle.ported_table.specs.Filled.{filled}
use Rattle.ported_table.proofs.fill.Given as goal

abbrev pub invariant-loop-i : goal.invariant-loop-i
invariant-loop-i l = (l.i ≤ l.n) × (length l.table ≡ length l.initial.table) × (l.table ≡ filled l.list l.i l.initial.table)
