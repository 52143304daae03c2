use mathlib.Core.Path.{◌≡◌}
use lib.Seq.{sets}
use Rattle.folded_line.specs.Line.{fives}
use Rattle.line_pieces.proofs.put_pieces.Given as goal

abbrev pub invariant-loop-j : goal.invariant-loop-j
invariant-loop-j l = l.out ≡ sets l.initial.out 0 (fives l.m l.h l.s l.n l.j)
