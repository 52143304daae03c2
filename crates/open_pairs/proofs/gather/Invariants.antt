use mathlib.Core.Path.{◌≡◌}
use Prim.Native.Nat.{◌≤◌, ◌-◌}
use lib.ListN.{length}
use Rattle.open_chart.specs.Memory.{places}
use Rattle.open_chart.specs.Listing.{Gathered}
use Rattle.open_pairs.proofs.gather.Given as goal

abbrev pub invariant-loop-i : goal.invariant-loop-i
invariant-loop-i l = (l.i ≤ places) × (l.count ≤ l.i) × (length l.all ≡ places) × Gathered l.chart l.i l.all l.names l.count

abbrev pub decreases-loop-i : goal.decreases-loop-i
decreases-loop-i l = places - l.i
