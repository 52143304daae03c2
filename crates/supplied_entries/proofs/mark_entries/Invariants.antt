use mathlib.Core.Path.{◌≡◌}
use mathlib.Core.List.{[]}
use Rattle.naive.specs.Decoded.{meets_in}
use Rattle.supplied.specs.Entries.{faults}
use Rattle.supplied.specs.Marks.{Marked}
use Rattle.supplied_entries.proofs.mark_entries.Given as goal

abbrev pub invariant-loop-i : goal.invariant-loop-i
invariant-loop-i l = (faults l.bytes (meets_in l.all) l.n l.i ≡ []) × Marked l.marks l.bytes l.i
