use Prim.Native.Nat.{◌+◌, ◌*◌}
use Rattle.chart_writer.proofs.Numbers.{Rest, Onward}
use Rattle.file_writer.proofs.put_numbers.Given as goal

abbrev pub invariant-loop-v : goal.invariant-loop-v
invariant-loop-v l = Onward l.list (5 * l.piece-index + 1) l.initial.next l.initial.out (5 * l.piece-index + 1 + l.v-index) l.next l.out

abbrev pub invariant-loop-piece : goal.invariant-loop-piece
invariant-loop-piece l = Rest l.list l.at l.initial.out (5 * l.piece-index) l.next l.out
