use Rattle.ported_run.proofs.Running.{Going}
use Rattle.ported_run.proofs.Tallying.{Tallied}
use Rattle.ported_loop.proofs.go.Given as goal

abbrev pub invariant-loop-steps : goal.invariant-loop-steps
invariant-loop-steps l =
    Going l.table l.ends l.initial.active l.initial.book.marks l.initial.book.waiting l.initial.bytes l.budget l.active l.book.marks l.book.waiting l.bytes l.passed l.live l.book.head l.book.end l.steps l.last
    × Tallied l.table l.ends l.initial.active l.initial.book.marks l.initial.book.waiting l.initial.bytes l.steps l.examined
