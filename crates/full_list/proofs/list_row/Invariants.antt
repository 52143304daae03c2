use lib.ListN.{drop}
use Rattle.fractions.specs.declared.Point.{Point}
use Rattle.sweep.specs.Lists.{keep}
use Rattle.full_points.specs.Spot.{Marks}
use Rattle.full_list.specs.Listed.{fresh_in, partners}
use Rattle.full_list.proofs.Writing.{Rest}
use Rattle.full_list.proofs.list_row.Given as goal

abbrev pub invariant-loop-j : goal.invariant-loop-j
invariant-loop-j l = (q : Point) → Marks l.p q → Rest (keep (fresh_in l.table q) (partners l.i l.behind)) l.initial.bytes l.end (keep (fresh_in l.table q) (partners l.i (drop l.j-index l.behind))) l.bytes l.at
