use mathlib.Core.Path.{◌≡◌}
use Prim.Native.Nat.{◌≤◌}
use Rattle.charts.specs.Chart.{pieces}
use Rattle.charts.specs.Verdict.{Accepted}
use Rattle.chart_verdict.proofs.verdict_of.Given as goal

abbrev pub invariant-loop-i : goal.invariant-loop-i
invariant-loop-i l = (l.i ≤ l.n) × (pieces l.list l.i ≡ Accepted l.i)
