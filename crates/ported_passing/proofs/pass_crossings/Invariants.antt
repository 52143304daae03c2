use mathlib.Core.Path.{◌≡◌}
use lib.ListN.{take}
use Rattle.ported_arrays.specs.Event.{flag, pieces, free_all}
use Rattle.ported_passing.proofs.pass_crossings.Given as goal

abbrev pub invariant-loop-c : goal.invariant-loop-c
invariant-loop-c l = (l.turning ≡ flag (pieces (take l.c-index l.c-items)) l.initial.turning) × (l.marks ≡ free_all (take l.c-index l.c-items) l.initial.marks)
