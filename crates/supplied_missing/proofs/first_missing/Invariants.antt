use mathlib.Core.Path.{◌≡◌}
use mathlib.Core.List.{[]}
use Rattle.naive.specs.Pairs.{row, rows}
use Rattle.naive.specs.Decoded.{meets_in}
use Rattle.supplied.specs.Marks.{unmarked}
use Rattle.supplied_missing.proofs.first_missing.Given as goal

abbrev pub invariant-loop-b : goal.invariant-loop-b
invariant-loop-b l = row (unmarked l.marks (meets_in l.fn.pieces.all)) l.a l.b ≡ []

abbrev pub invariant-loop-a : goal.invariant-loop-a
invariant-loop-a l = rows (unmarked l.marks (meets_in l.fn.pieces.all)) l.a ≡ []
