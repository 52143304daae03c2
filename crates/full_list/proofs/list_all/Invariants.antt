use lib.ListN.{length, take}
use Rattle.fractions.specs.declared.Point.{Point}
use Rattle.sweep.specs.Lists.{keep, pairs}
use Rattle.full_points.specs.Spot.{Marks}
use Rattle.full_list.specs.Listed.{fresh_in}
use Rattle.full_list.proofs.Writing.{Rest}
use Rattle.full_list.proofs.list_all.Given as goal

abbrev pub invariant-loop-i : goal.invariant-loop-i
invariant-loop-i l = (q : Point) → Marks l.p q → Rest (keep (fresh_in l.table q) (pairs (take l.count l.here))) l.initial.bytes l.end (keep (fresh_in l.table q) (pairs l.rest)) l.bytes l.at

abbrev pub decreases-loop-i : goal.decreases-loop-i
decreases-loop-i l = length l.rest
